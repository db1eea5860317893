-- What is written of an order.
use Rattle.std.proofs.Common.{◌≡◌, ℕ, List, [], ◌∷◌, ◌++◌, length, Option, Some, None, Result, Ok, refl, sym, ap, subst, ◌∙◌}
use Rattle.std.specs.Prelude.{if◌then◌else◌}
use Rattle.std.specs.Cmp.Lexicographic.{bytes_decides}
use Rattle.dcsp_outside.specs.Outside.{Place, Stream, Told, bytes_of}
use Rattle.dcsp_rule.specs.Problems.{Contents, csp_of}
use Rattle.dcsp_script.specs.Texts.{LeavesAlone}
use Rattle.dcsp_script.proofs.Parts.{left_alone}
use Rattle.dcsp_order.specs.ByRule.{IsOrderBy}
use Rattle.dcsp_script.specs.Promises.{IsHeld}
use Rattle.abt_input.specs.Inputs.{IsModelOf}
use Rattle.abt_input.proofs.Once.{one_problem}
use Rattle.line_model.specs.OrderHeld.{WritesOrder, HoldsOrder}
use Rattle.dcsp_script.specs.declared.stop.Stop.{Stop}
use Rattle.dcsp_script.specs.Scripts.{Create, Append, Put, World, outside, after_write, file_after, FilesAfter}
use Rattle.dcsp_script.specs.Ways.{Wrote}
use Rattle.dcsp_order.specs.declared.by_rule.OrderRule.{OrderRule}
use Rattle.dcsp_order.specs.Texts.{order_text}
use Rattle.line_model.specs.OrderPromise.{order_line, order_script}

-- the text and the line are those of the order
pub order_told : {T : Type 0} {a b : World} {r : Result T Stop} (file : List ℕ) (rule : OrderRule) (order text told numbers : List ℕ) → text ≡ order_text order → told ≡ order_line rule (length numbers) → numbers ≡ order
    → Wrote (Create file ∷ Append file text ∷ Put told ∷ []) a b r → Wrote (order_script file rule order) a b r
order_told {a = a} {b = b} {r = r} file rule order text told numbers is line same w =
    subst (λ (l : List ℕ). Wrote (Create file ∷ Append file (order_text order) ∷ Put l ∷ []) a b r) (line ∙ ap (λ (o : List ℕ). order_line rule (length o)) same)
    (subst (λ (t : List ℕ). Wrote (Create file ∷ Append file t ∷ Put told ∷ []) a b r) is w)

-- ---- what is under the file's name then

module _ (file : List ℕ) (rule : OrderRule) (order : List ℕ) where
  file_is : (before : Option (List ℕ)) → file_after (order_script file rule order) file before ≡ Some (order_text order)
  file_is before =
      let own = (bytes_decides file file).1 refl in
      ap (λ b. after_write (Append file (order_text order)) file (if b then Some [] else before)) own
      ∙ ap (λ b. if b then Some ([] ++ order_text order) else Some []) own

  leaves : (other : List ℕ) → (file ≡ other → ⊥) → LeavesAlone (order_script file rule order) other
  leaves other unlike = (unlike, (unlike, ((λ u. u), tt)))

module _ (m : List ℕ) (rule : OrderRule) (file : List ℕ) (p : Contents) (order : List ℕ) (by : IsOrderBy rule (csp_of p) order) where
  writes_order : (files now : List ℕ → Option (List ℕ)) → FilesAfter (order_script file rule order) files now → WritesOrder p rule file files now
  writes_order files now after = record {
    order = order;
    by_rule = by;
    written = after file ∙ file_is file rule order (files file);
    others = λ other unlike. after other ∙ left_alone (order_script file rule order) other (files other) (leaves file rule order other (λ e. unlike (sym e)));
  }

  told_order : (files now : Option (List ℕ → Option (List ℕ))) → (model : List ℕ) × IsHeld files m model × IsModelOf model p → Told files now (FilesAfter (order_script file rule order)) → HoldsOrder m rule file files now
  told_order None None h t = tt
  told_order None (Some now) h t = t
  told_order (Some files) None h t = t
  told_order (Some files) (Some now) h t = λ other is.
      subst (λ x. WritesOrder x rule file files now) (one_problem (bytes_of (files m)) p other (subst (λ b. IsModelOf b p) h.1 h.2) is) (writes_order files now t)

  -- in a folder that told the same when the model was read
  pub holds_order : {T : Type 0} (files : Option (List ℕ → Option (List ℕ))) (q : Place) (out : Stream) (w : World) (x : T) → q.held ≡ files → (model : List ℕ) × IsHeld files m model × IsModelOf model p
      → Wrote (order_script file rule order) (outside q out) w (Ok x) → HoldsOrder m rule file files w.folder.held
  holds_order files q out w x same h wrote =
      told_order files w.folder.held h (subst (λ f. Told f w.folder.held (FilesAfter (order_script file rule order))) same wrote.ended.after.files)
