-- Folds over lines.
use Rattle.std.proofs.Common.{◌≡◌, ◌≢◌, ◌∙◌, ℕ, cond, List, [], ◌∷◌, ◌++◌, refl, ap, eq-eqb}
use Rattle.std.proofs.lemmas.Bool.{ne_eqb}
use Rattle.abt_defs.specs.Runs.{Cargo}
use Rattle.abt_story.specs.Facts.{Fact, Line}
use Rattle.abt_story.specs.Telling.{lines}
use Rattle.abt_story.specs.Retelling.{by_line, fold, list_after, list_by, list_told, retold}

pub fold_append : {X : Type 0} (change : Fact → X → X) (x : X) (fs gs : List Fact) → fold change x (fs ++ gs) ≡ fold change (fold change x fs) gs
fold_append change x [] gs = refl
fold_append change x (f ∷ fs) gs = fold_append change (change f x) fs gs

pub retold_append : {X : Type 0} (change : Fact → X → X) (i : ℕ) (x : X) (ls ms : List Line) → retold change i x (ls ++ ms) ≡ retold change i (retold change i x ls) ms
retold_append change i x [] ms = refl
retold_append change i x (l ∷ ls) ms = retold_append change i (by_line change i l.agent l.fact x) ls ms

pub list_append : (k j : ℕ) (x : List Cargo) (ls ms : List Line) → list_told k j x (ls ++ ms) ≡ list_told k j (list_told k j x ls) ms
list_append k j x [] ms = refl
list_append k j x (l ∷ ls) ms = list_append k j (list_by k j l.agent l.fact x) ls ms

-- lines of the agent itself
pub retold_own : {X : Type 0} (change : Fact → X → X) (i : ℕ) (x : X) (e : ℕ) (fs : List Fact) → retold change i x (lines e i fs) ≡ fold change x fs
retold_own change i x e [] = refl
retold_own change i x e (f ∷ fs) = ap (λ b. retold change i (cond b (change f x) x) (lines e i fs)) (eq-eqb i i refl) ∙ retold_own change i (change f x) e fs

-- lines of another
pub retold_other : {X : Type 0} (change : Fact → X → X) (i j : ℕ) → i ≢ j → (x : X) (e : ℕ) (fs : List Fact) → retold change i x (lines e j fs) ≡ x
retold_other change i j ne x e [] = refl
retold_other change i j ne x e (f ∷ fs) = ap (λ b. retold change i (cond b (change f x) x) (lines e j fs)) (ne_eqb i j ne) ∙ retold_other change i j ne x e fs

pub list_lines : (k j : ℕ) (x : List Cargo) (e i : ℕ) (fs : List Fact) → list_told k j x (lines e i fs) ≡ fold (list_after k j i) x fs
list_lines k j x e i [] = refl
list_lines k j x e i (f ∷ fs) = list_lines k j (list_after k j i f x) e i fs
