-- Where steps end in a log that is read line by line.
use Rattle.std.proofs.Common.{◌≡◌, ℕ, ◌+◌, Bool, true, false, eqb, List, [], ◌∷◌, ◌++◌, length, take, drop, get_or, Err, refl, sym, ap, subst, ◌∙◌, append-nil, append_assoc, arith}
use Rattle.std.specs.List.{concat, starts_with}
use Rattle.std.proofs.lemmas.Bool.{false≢true}
use Rattle.std.proofs.lemmas.Bool.Decides.{Decides-eqb}
use Rattle.std.proofs.lemmas.List.{length-append}
use Rattle.std.proofs.lemmas.Slice.Eq.{starts_is}
use Rattle.dcsp_defs.specs.declared.Step.{Step}
use Rattle.dcsp_defs.specs.declared.entry.Entry.{Entry}
use Rattle.dcsp_defs.specs.declared.entry.Entry.TheVariants.{Step as A_step, Delete}
use Rattle.ngd_log.specs.declared.log.LogError.{LogError}
use Rattle.ngd_log.specs.declared.log.LogError.TheVariants.{Line, Memory}
use Rattle.ngd_log.specs.declared.standing.Version.TheVariants.{Two}
use Rattle.ngd_log.specs.Lines.{lines}
use Rattle.ngd_log.specs.Logs.{IsLogOf, IsFirstBad}
use Rattle.ngd_log.specs.Entries.{steps_of}
use Rattle.ngd_log.specs.EntryTexts.{head, IsLogOfEntries, IsFirstBadLine, IsHeadedTwo}
use Rattle.ngd_log.specs.EntryReading.{good_entries}
use Rattle.ngd_log.specs.Pieces.{Kept, IsFed, TakesFront}
use Rattle.ngd_log.proofs.FirstBad.{bad_head}
use Rattle.ngd_log.proofs.LineFeeds.{lines_after, concat-lines}
use Rattle.ngd_log.proofs.LogLines.{cons_head}
use Rattle.ngd_log.proofs.OneAnswer.{steps_same, one_answer}
use Rattle.ngd_rewrite.specs.Endings.{AreEnds, steps_in, HaveCome, IsReadAs}

-- ---- lines

-- the front of a text has come, and the rest waits
pub record HasFront (reader : Kept) (ends text rest : List ℕ) : Type 0 where
  pub front : List ℕ
  pub parts : text ≡ front ++ rest
  pub come : HaveCome reader ends front

-- nothing has come
pub come_none : (reader : Kept) (ends : List ℕ) → IsFed reader [] → ends ≡ [] → HaveCome reader ends []
unfolding steps_in
come_none reader ends fed e = record { fed = fed; are_ends = record { count = ap length e; each = λ i lt. absurd (omega (arith, lt)) } }

pub front_none : (reader : Kept) (ends text : List ℕ) → HaveCome reader ends [] → HasFront reader ends text text
front_none reader ends text h = record { front = []; parts = refl; come = h }

-- the steps of entries after others
steps_after : (xs ys : List Entry) → steps_of (xs ++ ys) ≡ steps_of xs ++ steps_of ys
steps_after [] ys = refl
steps_after (A_step s ∷ xs) ys = ap (λ (ss : List Step). s ∷ ss) (steps_after xs ys)
steps_after (Delete ns ∷ xs) ys = steps_after xs ys

-- the steps of a text with more of it, after which these entries are lent
steps_with : (text more : List ℕ) (lent : List Entry) → good_entries text ++ lent ≡ good_entries (text ++ more) → steps_in text ++ steps_of lent ≡ steps_in (text ++ more)
unfolding steps_in
steps_with text more lent e = sym (steps_after (good_entries text) lent) ∙ ap steps_of e

-- the reader took more, and then what it lends
pub front_more : (old new : Kept) (before after text rest others : List ℕ) → HasFront old before text rest → TakesFront old new rest others
    → ((steps : List Step) → AreEnds steps before → AreEnds (steps ++ steps_of new.lent) after) → HasFront new after text others
front_more old new before after text rest others h t on = record {
  front = h.front ++ t.front;
  parts = h.parts ∙ ap (λ (p : List ℕ). h.front ++ p) t.parts ∙ sym (append_assoc h.front t.front others);
  come = record {
    fed = t.fed h.front h.come.fed;
    are_ends = subst (λ (ss : List Step). AreEnds ss after) (steps_with h.front t.front new.lent (t.entries h.front h.come.fed)) (on (steps_in h.front) h.come.are_ends);
  };
}

-- what is left lends nothing
pub front_whole : (old new : Kept) (ends text rest : List ℕ) → HasFront old ends text rest → TakesFront old new rest [] → new.lent ≡ [] → HaveCome new ends text
front_whole old new ends text rest h t none =
    let all : HasFront new ends text [] =
    front_more old new ends ends text rest [] h t
    (λ steps are. subst (λ (es : List Entry). AreEnds (steps ++ steps_of es) ends) (sym none) (subst (λ (ss : List Step). AreEnds ss ends) (sym (append-nil steps)) are)) in
    subst (λ (xs : List ℕ). HaveCome new ends xs) (sym (all.parts ∙ append-nil all.front)) all.come

-- the bytes that came and those of the rest are the text's
pub front_room : (reader : Kept) (ends text rest : List ℕ) → HasFront reader ends text rest → reader.fed + length rest ≡ length text
front_room reader ends text rest h =
    let fed = h.come.fed.fed in
    let both = length-append h.front rest in
    let all = ap length h.parts in
    omega (arith, fed, both, all)

-- ---- the whole text

-- a text that begins with the head of version 2 is no log of version 1
pub bad_version : (text rest : List ℕ) → text ≡ head Two ++ rest → IsFirstBad text 1
bad_version text rest e =
    bad_head text (λ others h.
    let first = ap lines e ∙ lines_after (head Two) rest (record { body = take 5 (head Two); plain = (refl, (refl, (refl, (refl, (refl, tt))))); same = refl }) in
    let digit : 50 ≡ 49 = ap (λ (line : List ℕ). get_or line 4 0) (cons_head _ _ _ _ (sym first ∙ h)) in
    absurd (omega (arith, digit)))

-- a test for that head
pub with_head : (text : List ℕ) (found : Bool) → found ≡ starts_with eqb text (head Two) → found ≡ true → IsFirstBad text 1
with_head text found is there = bad_version text (drop 6 text) ((starts_is Decides-eqb text (head Two) found is).0 there)

pub without_head : (text : List ℕ) (found : Bool) → found ≡ starts_with eqb text (head Two) → found ≡ false → IsHeadedTwo text → ⊥
without_head text found is absent h =
    false≢true (sym absent ∙ (starts_is Decides-eqb text (head Two) found is).1 (concat h.0) (sym (concat-lines text) ∙ ap concat h.1))

-- the entries of a log of version 1 are its steps
pub log_read : (text : List ℕ) → (IsHeadedTwo text → ⊥) → IsLogOfEntries text (good_entries text) → IsLogOf text (steps_in text)
unfolding steps_in
log_read text no_two is =
    let log = (one_answer text no_two).entries (good_entries text) is in
    subst (λ (ss : List Step). IsLogOf text ss) (sym (ap steps_of log.1 ∙ steps_same log.0)) log.2

-- its first bad line is that of entries
pub not_read : (T : Type 0) (Holds : List Step → T → Type 0) (text : List ℕ) (error : LogError) → (IsHeadedTwo text → ⊥) → ((number : ℕ) → error ≡ Line number → IsFirstBadLine text number) → IsReadAs Holds text (Err error)
not_read T Holds text (Line number) no_two bad = (one_answer text no_two).bad_line number (bad number refl)
not_read T Holds text Memory no_two bad = tt
