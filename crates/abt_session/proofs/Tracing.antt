-- The lines of a trace tell its deliveries.
use Rattle.std.proofs.Common.{◌≡◌, ◌≢◌, ◌∙◌, ℕ, ◌+◌, ◌<◌, ◌^◌, ℤ, false, List, [], ◌∷◌, ◌++◌, length, Option, Some, codes, decimal, FitsSigned, slice_index_or, refl, sym, ap, arith, append_assoc}
use Rattle.std.specs.Int.{w64}
use Rattle.std.specs.List.{AllByRecursion}
use Rattle.std.specs.Fmt.{signed_decimal}
use Rattle.std.proofs.lemmas.List.{append_cancel_left}
use Rattle.dcsp_common.specs.Reading.{begins_with_digit, number_at}
use Rattle.dcsp_common.proofs.Chosen.{some_is}
use Rattle.dcsp_common.proofs.Decimals.{number_again}
use Rattle.ngd_log.specs.Reading.{integer_at}
use Rattle.ngd_log.proofs.Fields.{integer_again}
use Rattle.abt_defs.specs.Runs.{Cargo, Tell, Refuse, AddLink, Delivery}
use Rattle.abt_session.specs.Traces.{cargo_text, trace_line}
use Rattle.abt_session.specs.Tracing.{CargoFits, DeliveryFits, LinesTellDeliveries, trace_text, TracesTellDeliveries}

-- ---- numbers

-- what was read first, and what is left
first_read : {A : Type 0} (a b : A) (x y : List ℕ) → ◌≡◌ {A = Option (A × List ℕ)} (Some (a, x)) (Some (b, y)) → a ≡ b
first_read {A} a b x y e = ap (λ (p : A × List ℕ). p.0) (some_is (a, x) (b, y) e)

rest_read : {A : Type 0} (a b : A) (x y : List ℕ) → ◌≡◌ {A = Option (A × List ℕ)} (Some (a, x)) (Some (b, y)) → x ≡ y
rest_read {A} a b x y e = ap (λ (p : A × List ℕ). p.1) (some_is (a, x) (b, y) e)

-- a number that no digit follows
number_once : (m n : ℕ) (x y : List ℕ) → m < 2 ^ 64 → n < 2 ^ 64 → begins_with_digit x ≡ false → begins_with_digit y ≡ false → decimal m ++ x ≡ decimal n ++ y → (m ≡ n) × (x ≡ y)
number_once m n x y small also stop ends e =
    let same = sym (number_again m x small stop) ∙ ap number_at e ∙ number_again n y also ends in
    (first_read m n x y same, rest_read m n x y same)

-- and one with a sign
integer_once : (v w : ℤ) (x y : List ℕ) → FitsSigned w64 v → FitsSigned w64 w → begins_with_digit x ≡ false → begins_with_digit y ≡ false → signed_decimal v ++ x ≡ signed_decimal w ++ y → (v ≡ w) × (x ≡ y)
integer_once v w x y fits also stop ends e =
    let same = sym (integer_again v x fits stop) ∙ ap integer_at e ∙ integer_again w y also ends in
    (first_read v w x y same, rest_read v w x y same)

-- ---- what is carried

-- the second bytes differ
apart : (a b c : ℕ) (xs ys : List ℕ) → a ≢ b → c ∷ a ∷ xs ≡ c ∷ b ∷ ys → ⊥
apart a b c xs ys differ e = differ (ap (λ l. slice_index_or l 1 0) e)

cargo_once : (c d : Cargo) (x y : List ℕ) → CargoFits c → CargoFits d → cargo_text c ++ (10 ∷ x) ≡ cargo_text d ++ (10 ∷ y) → (c ≡ d) × (x ≡ y)
cargo_once (Tell v) (Tell w) x y f g e =
    let h = integer_once v w (10 ∷ x) (10 ∷ y) f g refl refl (append_cancel_left (codes " ok ") (signed_decimal v ++ (10 ∷ x)) (signed_decimal w ++ (10 ∷ y)) e) in
    (ap Tell h.0, append_cancel_left (10 ∷ []) x y h.1)
cargo_once (Tell v) (Refuse n) x y f g e = absurd (apart 111 110 32 _ _ (omega arith) e)
cargo_once (Tell v) AddLink x y f g e = absurd (apart 111 108 32 _ _ (omega arith) e)
cargo_once (Refuse m) (Tell w) x y f g e = absurd (apart 110 111 32 _ _ (omega arith) e)
cargo_once (Refuse m) (Refuse n) x y f g e =
    let h = number_once m n (10 ∷ x) (10 ∷ y) f g refl refl (append_cancel_left (codes " nogood ") (decimal m ++ (10 ∷ x)) (decimal n ++ (10 ∷ y)) e) in
    (ap Refuse h.0, append_cancel_left (10 ∷ []) x y h.1)
cargo_once (Refuse m) AddLink x y f g e = absurd (apart 110 108 32 _ _ (omega arith) e)
cargo_once AddLink (Tell w) x y f g e = absurd (apart 108 111 32 _ _ (omega arith) e)
cargo_once AddLink (Refuse n) x y f g e = absurd (apart 108 110 32 _ _ (omega arith) e)
cargo_once AddLink AddLink x y f g e = (refl, append_cancel_left (codes " link\n") x y e)

-- behind a number comes no digit
no_digit : (c : Cargo) (x : List ℕ) → begins_with_digit (cargo_text c ++ x) ≡ false
no_digit (Tell v) x = refl
no_digit (Refuse n) x = refl
no_digit AddLink x = refl

-- ---- a line

-- what follows the receiver's `v`, what follows the sender's, and what follows the number
abbrev behind_v : Delivery → List ℕ → List ℕ
behind_v d x = decimal (d.receiver + 1) ++ (cargo_text d.cargo ++ (10 ∷ x))

abbrev behind_number : Delivery → List ℕ → List ℕ
behind_number d x = codes " v" ++ (decimal (d.sender + 1) ++ (codes ">v" ++ behind_v d x))

-- a line with what follows it, from its front on
parts : (n : ℕ) (d : Delivery) (x : List ℕ) → trace_line n d ++ x ≡ codes "% " ++ (decimal n ++ behind_number d x)
parts n d x =
    let number = codes "% " ++ decimal n in
    let sender = decimal (d.sender + 1) in
    let receiver = decimal (d.receiver + 1) in
    let cargo = cargo_text d.cargo in
    append_assoc (((((number ++ codes " v") ++ sender) ++ codes ">v") ++ receiver) ++ cargo) (codes "\n") x
    ∙ append_assoc ((((number ++ codes " v") ++ sender) ++ codes ">v") ++ receiver) cargo (10 ∷ x)
    ∙ append_assoc (((number ++ codes " v") ++ sender) ++ codes ">v") receiver (cargo ++ (10 ∷ x))
    ∙ append_assoc ((number ++ codes " v") ++ sender) (codes ">v") (behind_v d x)
    ∙ append_assoc (number ++ codes " v") sender (codes ">v" ++ behind_v d x)
    ∙ append_assoc number (codes " v") (sender ++ (codes ">v" ++ behind_v d x))
    ∙ append_assoc (codes "% ") (decimal n) (behind_number d x)

-- a delivery by its parts
pub record IsSame (m n : ℕ) (d e : Delivery) (x y : List ℕ) : Type 0 where
  pub number : m ≡ n
  pub delivery : d ≡ e
  pub rest : x ≡ y

delivery_is : (d e : Delivery) → d.sender ≡ e.sender → d.receiver ≡ e.receiver → d.cargo ≡ e.cargo → d ≡ e
delivery_is d e a b c =
    ap (λ s. record { sender = s; receiver = d.receiver; cargo = d.cargo }) a
    ∙ ap (λ r. record { sender = e.sender; receiver = r; cargo = d.cargo }) b
    ∙ ap (λ k. record { sender = e.sender; receiver = e.receiver; cargo = k }) c

line_once : (m n : ℕ) (d e : Delivery) (x y : List ℕ) → m < 2 ^ 64 → n < 2 ^ 64 → DeliveryFits d → DeliveryFits e → trace_line m d ++ x ≡ trace_line n e ++ y → IsSame m n d e x y
line_once m n d e x y small also fits other same =
    let front = append_cancel_left (codes "% ") (decimal m ++ behind_number d x) (decimal n ++ behind_number e y) (sym (parts m d x) ∙ same ∙ parts n e y) in
    let number = number_once m n (behind_number d x) (behind_number e y) small also refl refl front in
    let from = append_cancel_left (codes " v") (decimal (d.sender + 1) ++ (codes ">v" ++ behind_v d x)) (decimal (e.sender + 1) ++ (codes ">v" ++ behind_v e y)) number.1 in
    let sender = number_once (d.sender + 1) (e.sender + 1) (codes ">v" ++ behind_v d x) (codes ">v" ++ behind_v e y) fits.sender other.sender refl refl from in
    let to = append_cancel_left (codes ">v") (behind_v d x) (behind_v e y) sender.1 in
    let receiver = number_once (d.receiver + 1) (e.receiver + 1) (cargo_text d.cargo ++ (10 ∷ x)) (cargo_text e.cargo ++ (10 ∷ y)) fits.receiver other.receiver (no_digit d.cargo (10 ∷ x)) (no_digit e.cargo (10 ∷ y)) to in
    let cargo = cargo_once d.cargo e.cargo x y fits.cargo other.cargo receiver.1 in
    let p = sender.0 in
    let q = receiver.0 in
    record { number = number.0; delivery = delivery_is d e (omega arith) (omega arith) cargo.0; rest = cargo.1 }

pub lines_tell_deliveries : LinesTellDeliveries
lines_tell_deliveries m n d e small also fits other =
    (λ same. let h = line_once m n d e [] [] small also fits other (ap (λ l. l ++ []) same) in (h.number, h.delivery), λ h. ap (λ k. trace_line k d) h.0 ∙ ap (trace_line n) h.1)

-- ---- all lines

-- no answer is a line with what follows it
no_line : (n : ℕ) (d : Delivery) (x answer : List ℕ) → slice_index_or answer 0 0 ≢ 37 → trace_line n d ++ x ≡ answer → ⊥
no_line n d x answer other e = other (ap (λ l. slice_index_or l 0 0) (sym e ∙ parts n d x))

text_once : (n : ℕ) (ds es : List Delivery) (answer other : List ℕ) → n + length ds < 2 ^ 64 → n + length es < 2 ^ 64 → AllByRecursion DeliveryFits ds → AllByRecursion DeliveryFits es
    → slice_index_or answer 0 0 ≢ 37 → slice_index_or other 0 0 ≢ 37 → trace_text n ds ++ answer ≡ trace_text n es ++ other → (ds ≡ es) × (answer ≡ other)
text_once n [] [] answer other few also f g free unlike e = (refl, e)
text_once n [] (d ∷ ds) answer other few also f g free unlike e = absurd (no_line n d (trace_text (n + 1) ds ++ other) answer free (sym (append_assoc (trace_line n d) (trace_text (n + 1) ds) other) ∙ sym e))
text_once n (d ∷ ds) [] answer other few also f g free unlike e = absurd (no_line n d (trace_text (n + 1) ds ++ answer) other unlike (sym (append_assoc (trace_line n d) (trace_text (n + 1) ds) answer) ∙ e))
text_once n (d ∷ ds) (c ∷ cs) answer other few also f g free unlike e =
    let h = line_once n n d c (trace_text (n + 1) ds ++ answer) (trace_text (n + 1) cs ++ other) (omega arith) (omega arith) f.0 g.0
    (sym (append_assoc (trace_line n d) (trace_text (n + 1) ds) answer) ∙ e ∙ append_assoc (trace_line n c) (trace_text (n + 1) cs) other) in
    let more = text_once (n + 1) ds cs answer other (omega arith) (omega arith) f.1 g.1 free unlike h.rest in
    (ap (λ x. x ∷ ds) h.delivery ∙ ap (λ l. c ∷ l) more.0, more.1)

pub traces_tell_deliveries : TracesTellDeliveries
traces_tell_deliveries ds es answer other traced also =
    let few = traced.few in
    let more = also.few in
    (λ e. text_once 1 ds es answer other (omega arith) (omega arith) traced.fit also.fit traced.other also.other e, λ h. ap (λ l. trace_text 1 l ++ answer) h.0 ∙ ap (λ l. trace_text 1 es ++ l) h.1)
