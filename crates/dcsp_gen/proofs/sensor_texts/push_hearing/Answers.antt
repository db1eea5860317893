use Rattle.std.proofs.Common.{ℕ, ◌++◌, ◌∷◌, [], List, string_bytes, codes, decimal, sym, ap, ◌∙◌, append_assoc}
use Rattle.std.specs.List.{concat}
use Rattle.std.proofs.lemmas.List.Folds.{concat-append}
use Rattle.dcsp_gen.proofs.Ranges.{appended}
use Rattle.dcsp_gen.specs.Binary.{entries}
use Rattle.dcsp_gen.proofs.sensor_texts.push_hearing.Goals as goal

-- the three parts of the line
pub returns : goal.returns
returns c =
    let before = string_bytes c.args.text.now in
    let listed = entries c.args.rows.now in
    let target = decimal c.args.target in
    let head : List (List ℕ) =
    codes "constraint fzn_table_int([t" ∷ target ∷ codes "s" ∷ decimal c.args.slots.0 ∷ codes ",t" ∷ target ∷ codes "s" ∷ decimal c.args.slots.1 ∷ codes "],[" ∷ [] in
    let listing = appended before _ _ (concat head) listed c.in_ok-write.ensures.bytes c.in_ok-push_entries.ensures in
    let whole = appended before _ _ (concat head ++ listed) (codes "]);\n") listing c.in_ok-push_str.ensures.bytes in
    whole ∙ ap (λ (t : List ℕ). before ++ t) (append_assoc (concat head) listed (codes "]);\n") ∙ sym (concat-append head (listed ∷ codes "]);\n" ∷ [])))
