-- Texts that grow piece by piece.
use Rattle.std.proofs.Common.{◌≡◌, ℕ, List, ◌++◌, ap, ◌∙◌, append_assoc}

-- four pieces, one after another
pub four_pieces : (old a b c d w x y z : List ℕ) → w ≡ old ++ a → x ≡ w ++ b → y ≡ x ++ c → z ≡ y ++ d → z ≡ old ++ (((a ++ b) ++ c) ++ d)
four_pieces old a b c d w x y z e f g h =
    h ∙ ap (λ t. t ++ d) (g ∙ ap (λ t. t ++ c) (f ∙ ap (λ t. t ++ b) e))
    ∙ ap (λ t. (t ++ c) ++ d) (append_assoc old a b) ∙ ap (λ t. t ++ d) (append_assoc old (a ++ b) c) ∙ append_assoc old ((a ++ b) ++ c) d
