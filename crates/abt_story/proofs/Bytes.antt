-- The lines of a story, byte by byte: they can be told apart, and a delivery can be read off its line.
use Rattle.std.proofs.Common.{◌≡◌, ◌∙◌, ℕ, zero, suc, ◌+◌, ◌/◌, ◌%◌, ◌<◌, ℤ, pos, negsuc, Bool, true, false, ◌⊎◌, inl, inr, List, [], ◌∷◌, ◌++◌, ◌==◌, drop, Option, Some, None, refl, sym, ap, subst, arith, append-nil, append_assoc, codes, decimal}
use Rattle.std.specs.Prelude.{if◌then◌else◌}
use Rattle.std.specs.List.{AllByRecursion, flat_map}
use Rattle.std.specs.Char.{is_ascii_digit}
use Rattle.std.specs.Fmt.{signed_decimal, digits, digits_onto, digit_glyph}
use Rattle.std.proofs.lemmas.Fmt.{decimal_injective}
use Rattle.std.proofs.lemmas.Bool.Decides.{nat_tests}
use Rattle.dcsp_defs.specs.declared.Reason.{Reason}
use Rattle.dcsp_defs.specs.declared.Reason.TheVariants.{Rule, Earlier}
use Rattle.ngd_log.specs.StepText.{reason_text}
use Rattle.ngd_log.specs.Reading.{integer_at}
use Rattle.ngd_log.proofs.Fields.{integer_again}
use Rattle.abt_defs.specs.Runs.{Cargo, Tell, Refuse, AddLink, Delivery}
use Rattle.abt_session.specs.Tracing.{CargoFits, DeliveryFits}
use Rattle.abt_session.specs.Traces.{cargo_text}
use Rattle.abt_story.specs.Facts.{RuledOut, Fact, Receives, Knows, Forgets, Keeps, Declines, Out, Takes, Makes, Sends, Line}
use Rattle.abt_story.specs.Texts.{agent_text, fact_text, line_text, lines_text, ruled_text, who_text}
use Rattle.abt_story.specs.Retelling.{deliveries_in, delivery_of}

-- ---- digits

abbrev IsDigit : ℕ → Type 0
IsDigit b = is_ascii_digit b ≡ true

glyph : (d : ℕ) → d < 10 → digit_glyph false d ≡ 48 + d
glyph d l = grind (arith, nat_tests)

digit : (n : ℕ) → IsDigit (digit_glyph false (n % 10))
digit n = let l : n % 10 < 10 = omega arith in subst IsDigit (sym (glyph (n % 10) l)) (grind (arith, nat_tests))

onto_digits : (k n : ℕ) (acc : List ℕ) → AllByRecursion IsDigit acc → AllByRecursion IsDigit (digits_onto k 10 false n acc)
onto_digits zero n acc h = h
onto_digits (suc k) n acc h = of (n / 10 == 0) (onto_digits k (n / 10) (digit_glyph false (n % 10) ∷ acc) (digit n, h))
  where
    of : (b : Bool) → AllByRecursion IsDigit (digits_onto k 10 false (n / 10) (digit_glyph false (n % 10) ∷ acc)) → AllByRecursion IsDigit (if b then digit_glyph false (n % 10) ∷ acc else digits_onto k 10 false (n / 10) (digit_glyph false (n % 10) ∷ acc))
    of true ih = (digit n, h)
    of false ih = ih

all_digits : (n : ℕ) → AllByRecursion IsDigit (decimal n)
unfolding digits
all_digits n = onto_digits 64 n [] tt

-- the digits that a text begins with, and what follows them
abbrev lead : List ℕ → List ℕ
lead [] = []
lead (b ∷ bs) = if is_ascii_digit b then b ∷ lead bs else []

abbrev skip : List ℕ → List ℕ
skip [] = []
skip (b ∷ bs) = if is_ascii_digit b then skip bs else b ∷ bs

lead_digits : (ds rest : List ℕ) → AllByRecursion IsDigit ds → lead (ds ++ rest) ≡ ds ++ lead rest
lead_digits [] rest h = refl
lead_digits (d ∷ ds) rest h = ap (λ (b : Bool). if b then d ∷ lead (ds ++ rest) else []) h.0 ∙ ap (λ l. d ∷ l) (lead_digits ds rest h.1)

skip_digits : (ds rest : List ℕ) → AllByRecursion IsDigit ds → skip (ds ++ rest) ≡ skip rest
skip_digits [] rest h = refl
skip_digits (d ∷ ds) rest h = ap (λ (b : Bool). if b then skip (ds ++ rest) else d ∷ (ds ++ rest)) h.0 ∙ skip_digits ds rest h.1

-- ---- line feeds

abbrev IsNoFeed : ℕ → Type 0
IsNoFeed b = (b == 10) ≡ false

no_digit_feeds : (ds : List ℕ) → AllByRecursion IsDigit ds → AllByRecursion IsNoFeed ds
no_digit_feeds [] h = tt
no_digit_feeds (d ∷ ds) h = (by_test (d == 10) refl, no_digit_feeds ds h.1)
  where
    by_test : (b : Bool) → (d == 10) ≡ b → (d == 10) ≡ false
    by_test true e = let no : IsDigit d = h.0 in absurd (grind (arith, nat_tests))
    by_test false e = e

in_both : (xs ys : List ℕ) → AllByRecursion IsNoFeed xs → AllByRecursion IsNoFeed ys → AllByRecursion IsNoFeed (xs ++ ys)
in_both [] ys h k = k
in_both (x ∷ xs) ys h k = (h.0, in_both xs ys h.1 k)

in_decimal : (n : ℕ) → AllByRecursion IsNoFeed (decimal n)
in_decimal n = no_digit_feeds (decimal n) (all_digits n)

in_signed : (v : ℤ) → AllByRecursion IsNoFeed (signed_decimal v)
in_signed (pos n) = in_decimal n
in_signed (negsuc n) = (refl, in_decimal (suc n))

in_agent : (i : ℕ) → AllByRecursion IsNoFeed (agent_text i)
in_agent i = (refl, in_decimal (i + 1))

in_who : (who : Option ℕ) → AllByRecursion IsNoFeed (who_text who)
in_who None = (refl, tt)
in_who (Some i) = in_agent i

in_cargo : (cargo : Cargo) → AllByRecursion IsNoFeed (cargo_text cargo)
in_cargo (Tell v) = (refl, (refl, (refl, (refl, in_signed v))))
in_cargo (Refuse n) = (refl, (refl, (refl, (refl, (refl, (refl, (refl, (refl, in_decimal n))))))))
in_cargo AddLink = (refl, (refl, (refl, (refl, (refl, tt)))))

in_reason : (r : Reason) → AllByRecursion IsNoFeed (reason_text r)
in_reason (Rule n) = (refl, in_decimal (n + 1))
in_reason (Earlier n) = (refl, in_decimal n)

in_ruled : (values : List RuledOut) → AllByRecursion IsNoFeed (flat_map ruled_text values)
in_ruled [] = tt
in_ruled (x ∷ values) =
    in_both (ruled_text x) (flat_map ruled_text values)
    (in_both (codes " " ++ signed_decimal x.value ++ codes ":") (reason_text x.reason) (in_both (codes " " ++ signed_decimal x.value) (codes ":") (refl, in_signed x.value) (refl, tt)) (in_reason x.reason)) (in_ruled values)

-- what stands before the first line feed, and behind it
abbrev cut : List ℕ → List ℕ
cut [] = []
cut (b ∷ bs) = if b == 10 then [] else b ∷ cut bs

abbrev behind : List ℕ → List ℕ
behind [] = []
behind (b ∷ bs) = if b == 10 then bs else behind bs

cut_is : (xs rest : List ℕ) → AllByRecursion IsNoFeed xs → cut (xs ++ 10 ∷ rest) ≡ xs
cut_is [] rest h = refl
cut_is (x ∷ xs) rest h = ap (λ (b : Bool). if b then [] else x ∷ cut (xs ++ 10 ∷ rest)) h.0 ∙ ap (λ l. x ∷ l) (cut_is xs rest h.1)

behind_is : (xs rest : List ℕ) → AllByRecursion IsNoFeed xs → behind (xs ++ 10 ∷ rest) ≡ rest
behind_is [] rest h = refl
behind_is (x ∷ xs) rest h = ap (λ (b : Bool). if b then xs ++ 10 ∷ rest else behind (xs ++ 10 ∷ rest)) h.0 ∙ behind_is xs rest h.1

-- ---- a line

-- pieces after a text, and pieces by themselves
abbrev left : List ℕ → List (List ℕ) → List ℕ
left x [] = x
left x (p ∷ ps) = left (x ++ p) ps

abbrev right : List (List ℕ) → List ℕ
right [] = []
right (p ∷ ps) = p ++ right ps

left_right : (x : List ℕ) (ps : List (List ℕ)) → left x ps ≡ x ++ right ps
left_right x [] = sym (append-nil x)
left_right x (p ∷ ps) = left_right (x ++ p) ps ∙ append_assoc x p (right ps)

right_append : (ps qs : List (List ℕ)) → right (ps ++ qs) ≡ right ps ++ right qs
right_append [] qs = refl
right_append (p ∷ ps) qs = ap (λ l. p ++ l) (right_append ps qs) ∙ sym (append_assoc p (right ps) (right qs))

in_right : (ps : List (List ℕ)) → AllByRecursion (AllByRecursion IsNoFeed) ps → AllByRecursion IsNoFeed (right ps)
in_right [] h = tt
in_right (p ∷ ps) h = in_both p (right ps) h.0 (in_right ps h.1)

-- what a line says of its event, without its line feed, in pieces
abbrev pieces : Option ℕ → Fact → List (List ℕ)
pieces who (Receives from cargo) = agent_text from ∷ codes ">" ∷ who_text who ∷ cargo_text cargo ∷ []
pieces who (Knows k value) = who_text who ∷ codes " knows " ∷ agent_text k ∷ codes "=" ∷ signed_decimal value ∷ []
pieces who (Forgets step) = who_text who ∷ codes " forgets n" ∷ decimal step ∷ []
pieces who (Keeps step) = who_text who ∷ codes " keeps n" ∷ decimal step ∷ []
pieces who (Declines step) = who_text who ∷ codes " refuses n" ∷ decimal step ∷ []
pieces who (Out values) = who_text who ∷ codes " out" ∷ flat_map ruled_text values ∷ []
pieces who (Takes value) = who_text who ∷ codes " takes " ∷ signed_decimal value ∷ []
pieces who (Makes step) = who_text who ∷ codes " makes n" ∷ decimal step ∷ []
pieces who (Sends to cargo) = who_text who ∷ codes " sends " ∷ agent_text to ∷ cargo_text cargo ∷ []

abbrev said : Option ℕ → Fact → List ℕ
said who f = right (pieces who f)

in_pieces : (head : List ℕ) (who : Option ℕ) (f : Fact) → fact_text head who f ≡ left head (pieces who f ++ codes "\n" ∷ [])
in_pieces head who (Receives from cargo) = refl
in_pieces head who (Knows k value) = refl
in_pieces head who (Forgets step) = refl
in_pieces head who (Keeps step) = refl
in_pieces head who (Declines step) = refl
in_pieces head who (Out values) = refl
in_pieces head who (Takes value) = refl
in_pieces head who (Makes step) = refl
in_pieces head who (Sends to cargo) = refl

line_is : (l : Line) → line_text l ≡ decimal l.event ++ 32 ∷ (said l.agent l.fact ++ 10 ∷ [])
line_is l =
    in_pieces (decimal l.event ++ codes " ") l.agent l.fact ∙ left_right (decimal l.event ++ codes " ") (pieces l.agent l.fact ++ codes "\n" ∷ [])
    ∙ ap (λ t. (decimal l.event ++ codes " ") ++ t) (right_append (pieces l.agent l.fact) (codes "\n" ∷ [])) ∙ append_assoc (decimal l.event) (codes " ") (said l.agent l.fact ++ 10 ∷ [])

in_said : (who : Option ℕ) (f : Fact) → AllByRecursion IsNoFeed (said who f)
in_said who f = in_right (pieces who f) (each f)
  where
    each : (f : Fact) → AllByRecursion (AllByRecursion IsNoFeed) (pieces who f)
    each (Receives from cargo) = (in_agent from, ((refl, tt), (in_who who, (in_cargo cargo, tt))))
    each (Knows k value) = (in_who who, ((refl, (refl, (refl, (refl, (refl, (refl, (refl, tt))))))), (in_agent k, ((refl, tt), (in_signed value, tt)))))
    each (Forgets step) = (in_who who, ((refl, (refl, (refl, (refl, (refl, (refl, (refl, (refl, (refl, (refl, tt)))))))))), (in_decimal step, tt)))
    each (Keeps step) = (in_who who, ((refl, (refl, (refl, (refl, (refl, (refl, (refl, (refl, tt)))))))), (in_decimal step, tt)))
    each (Declines step) = (in_who who, ((refl, (refl, (refl, (refl, (refl, (refl, (refl, (refl, (refl, (refl, tt)))))))))), (in_decimal step, tt)))
    each (Out values) = (in_who who, ((refl, (refl, (refl, (refl, tt)))), (in_ruled values, tt)))
    each (Takes value) = (in_who who, ((refl, (refl, (refl, (refl, (refl, (refl, (refl, tt))))))), (in_signed value, tt)))
    each (Makes step) = (in_who who, ((refl, (refl, (refl, (refl, (refl, (refl, (refl, (refl, tt)))))))), (in_decimal step, tt)))
    each (Sends to cargo) = (in_who who, ((refl, (refl, (refl, (refl, (refl, (refl, (refl, tt))))))), (in_agent to, (in_cargo cargo, tt))))

-- ---- a delivery is told apart

-- what follows its first byte and digits
abbrev mark : List ℕ → List ℕ
mark bytes = skip (drop 1 bytes)

-- it tells no delivery, and another byte follows than in the line of one
pub record TellsNone (who : Option ℕ) (f : Fact) : Type 0 where
  pub none : delivery_of who f ≡ []
  pub rest : List ℕ
  pub marked : (mark (said who f) ≡ 32 ∷ rest) ⊎ (mark (said who f) ≡ 62 ∷ 45 ∷ rest)

pub record TellsOne (who : Option ℕ) (f : Fact) : Type 0 where
  pub from : ℕ
  pub to : ℕ
  pub cargo : Cargo
  pub who_is : who ≡ Some to
  pub fact_is : f ≡ Receives from cargo

marked_who : (who : Option ℕ) (rest : List ℕ) → mark (who_text who ++ 32 ∷ rest) ≡ 32 ∷ rest
marked_who None rest = refl
marked_who (Some i) rest = skip_digits (decimal (i + 1)) (32 ∷ rest) (all_digits (i + 1))

tells : (who : Option ℕ) (f : Fact) → TellsOne who f ⊎ TellsNone who f
tells (Some i) (Receives from cargo) = inl (record { from = from; to = i; cargo = cargo; who_is = refl; fact_is = refl })
tells None (Receives from cargo) = inr (record { none = refl; rest = cargo_text cargo ++ []; marked = inr (skip_digits (decimal (from + 1)) (62 ∷ 45 ∷ (cargo_text cargo ++ [])) (all_digits (from + 1))) })
tells who (Knows k value) = inr (record { none = none_of who; rest = _; marked = inl (marked_who who _) })
  where
    none_of : (o : Option ℕ) → delivery_of o (Knows k value) ≡ []
    none_of None = refl
    none_of (Some i) = refl
tells who (Forgets step) = inr (record { none = none_of who; rest = _; marked = inl (marked_who who _) })
  where
    none_of : (o : Option ℕ) → delivery_of o (Forgets step) ≡ []
    none_of None = refl
    none_of (Some i) = refl
tells who (Keeps step) = inr (record { none = none_of who; rest = _; marked = inl (marked_who who _) })
  where
    none_of : (o : Option ℕ) → delivery_of o (Keeps step) ≡ []
    none_of None = refl
    none_of (Some i) = refl
tells who (Declines step) = inr (record { none = none_of who; rest = _; marked = inl (marked_who who _) })
  where
    none_of : (o : Option ℕ) → delivery_of o (Declines step) ≡ []
    none_of None = refl
    none_of (Some i) = refl
tells who (Out values) = inr (record { none = none_of who; rest = _; marked = inl (marked_who who _) })
  where
    none_of : (o : Option ℕ) → delivery_of o (Out values) ≡ []
    none_of None = refl
    none_of (Some i) = refl
tells who (Takes value) = inr (record { none = none_of who; rest = _; marked = inl (marked_who who _) })
  where
    none_of : (o : Option ℕ) → delivery_of o (Takes value) ≡ []
    none_of None = refl
    none_of (Some i) = refl
tells who (Makes step) = inr (record { none = none_of who; rest = _; marked = inl (marked_who who _) })
  where
    none_of : (o : Option ℕ) → delivery_of o (Makes step) ≡ []
    none_of None = refl
    none_of (Some i) = refl
tells who (Sends to cargo) = inr (record { none = none_of who; rest = _; marked = inl (marked_who who _) })
  where
    none_of : (o : Option ℕ) → delivery_of o (Sends to cargo) ≡ []
    none_of None = refl
    none_of (Some i) = refl

one : {X : Type 0} {x y : X} → Some x ≡ Some y → x ≡ y
one e = cc

first_byte : {a b : ℕ} {xs ys : List ℕ} → a ∷ xs ≡ b ∷ ys → a ≡ b
first_byte e = cc

ok_is_no_nogood : ◌≡◌ {A = ℕ} 111 110 → ⊥
ok_is_no_nogood e = absurd (let f = e in omega arith)

ok_is_no_link : ◌≡◌ {A = ℕ} 111 108 → ⊥
ok_is_no_link e = absurd (let f = e in omega arith)

nogood_is_no_link : ◌≡◌ {A = ℕ} 110 108 → ⊥
nogood_is_no_link e = absurd (let f = e in omega arith)

cargo_is : (c d : Cargo) → CargoFits c → CargoFits d → cargo_text c ≡ cargo_text d → c ≡ d
cargo_is (Tell v) (Tell w) f g e = ap Tell (ap (λ (x : ℤ × List ℕ). x.0) (one (sym (integer_again v [] f refl) ∙ ap (λ l. integer_at (drop 4 l ++ [])) e ∙ integer_again w [] g refl)))
cargo_is (Tell v) (Refuse n) f g e = absurd (ok_is_no_nogood (first_byte (ap (drop 1) e)))
cargo_is (Tell v) AddLink f g e = absurd (ok_is_no_link (first_byte (ap (drop 1) e)))
cargo_is (Refuse m) (Tell v) f g e = absurd (ok_is_no_nogood (first_byte (ap (drop 1) (sym e))))
cargo_is (Refuse m) (Refuse n) f g e = ap Refuse (decimal_injective m n f g (ap (drop 8) e))
cargo_is (Refuse m) AddLink f g e = absurd (nogood_is_no_link (first_byte (ap (drop 1) e)))
cargo_is AddLink (Tell v) f g e = absurd (ok_is_no_link (first_byte (ap (drop 1) (sym e))))
cargo_is AddLink (Refuse n) f g e = absurd (nogood_is_no_link (first_byte (ap (drop 1) (sym e))))
cargo_is AddLink AddLink f g e = refl

-- behind a number comes no digit
cargo_led : (c : Cargo) → (lead (cargo_text c ++ []) ≡ []) × (skip (cargo_text c ++ []) ≡ cargo_text c ++ [])
cargo_led (Tell v) = (refl, refl)
cargo_led (Refuse n) = (refl, refl)
cargo_led AddLink = (refl, refl)

module _ (from to : ℕ) (cargo : Cargo) where
  abbrev one_said : List ℕ
  one_said = said (Some to) (Receives from cargo)

  abbrev behind_from : List ℕ
  behind_from = decimal (to + 1) ++ (cargo_text cargo ++ [])

  one_marked : mark one_said ≡ 62 ∷ 118 ∷ behind_from
  one_marked = skip_digits (decimal (from + 1)) (62 ∷ 118 ∷ behind_from) (all_digits (from + 1))

  from_read : lead (drop 1 one_said) ≡ decimal (from + 1)
  from_read = lead_digits (decimal (from + 1)) (62 ∷ 118 ∷ behind_from) (all_digits (from + 1)) ∙ append-nil (decimal (from + 1))

  to_read : lead (drop 2 (mark one_said)) ≡ decimal (to + 1)
  to_read =
      ap (λ l. lead (drop 2 l)) one_marked ∙ lead_digits (decimal (to + 1)) (cargo_text cargo ++ []) (all_digits (to + 1))
      ∙ ap (λ l. decimal (to + 1) ++ l) (cargo_led cargo).0 ∙ append-nil (decimal (to + 1))

  cargo_read : skip (drop 2 (mark one_said)) ≡ cargo_text cargo
  cargo_read = ap (λ l. skip (drop 2 l)) one_marked ∙ skip_digits (decimal (to + 1)) (cargo_text cargo ++ []) (all_digits (to + 1)) ∙ (cargo_led cargo).1 ∙ append-nil (cargo_text cargo)

one_delivery : (a b c d : ℕ) (x y : Cargo) → DeliveryFits (record { sender = a; receiver = b; cargo = x }) → DeliveryFits (record { sender = c; receiver = d; cargo = y })
    → said (Some b) (Receives a x) ≡ said (Some d) (Receives c y) → delivery_of (Some b) (Receives a x) ≡ delivery_of (Some d) (Receives c y)
one_delivery a b c d x y f g e =
    let from = decimal_injective (a + 1) (c + 1) f.sender g.sender (sym (from_read a b x) ∙ ap (λ l. lead (drop 1 l)) e ∙ from_read c d y) in
    let to = decimal_injective (b + 1) (d + 1) f.receiver g.receiver (sym (to_read a b x) ∙ ap (λ l. lead (drop 2 (mark l))) e ∙ to_read c d y) in
    let cargo = cargo_is x y f.cargo g.cargo (sym (cargo_read a b x) ∙ ap (λ l. skip (drop 2 (mark l))) e ∙ cargo_read c d y) in
    let p : a ≡ c = omega arith in
    let q : b ≡ d = omega arith in
    rw (p, q, cargo) refl

-- no line that tells a delivery is one that tells none
no_blank : {xs ys : List ℕ} → 62 ∷ xs ≡ 32 ∷ ys → ⊥
no_blank e = cc

no_dash : {xs ys : List ℕ} → 62 ∷ 118 ∷ xs ≡ 62 ∷ 45 ∷ ys → ⊥
no_dash e = cc

apart : (from to : ℕ) (cargo : Cargo) (who : Option ℕ) (f : Fact) → TellsNone who f → said (Some to) (Receives from cargo) ≡ said who f → ⊥
apart from to cargo who f n e = by_mark (mark (said who f)) (sym (one_marked from to cargo) ∙ ap mark e) n.marked
  where
    by_mark : (m : List ℕ) → 62 ∷ 118 ∷ behind_from from to cargo ≡ m → (m ≡ 32 ∷ n.rest) ⊎ (m ≡ 62 ∷ 45 ∷ n.rest) → ⊥
    by_mark m same (inl h) = no_blank (same ∙ h)
    by_mark m same (inr h) = no_dash (same ∙ h)

-- equal lines tell the same delivery, or none
same_told : (who other : Option ℕ) (f g : Fact) → AllByRecursion DeliveryFits (delivery_of who f) → AllByRecursion DeliveryFits (delivery_of other g) → said who f ≡ said other g → delivery_of who f ≡ delivery_of other g
same_told who other f g fits fits' e = by_kind (tells who f) (tells other g)
  where
    by_kind : TellsOne who f ⊎ TellsNone who f → TellsOne other g ⊎ TellsNone other g → delivery_of who f ≡ delivery_of other g
    by_kind (inl a) (inl b) =
        let one : delivery_of who f ≡ delivery_of (Some a.to) (Receives a.from a.cargo) = ap (λ w. delivery_of w f) a.who_is ∙ ap (delivery_of (Some a.to)) a.fact_is in
        let two : delivery_of other g ≡ delivery_of (Some b.to) (Receives b.from b.cargo) = ap (λ w. delivery_of w g) b.who_is ∙ ap (delivery_of (Some b.to)) b.fact_is in
        let said_one : said who f ≡ said (Some a.to) (Receives a.from a.cargo) = ap (λ w. said w f) a.who_is ∙ ap (said (Some a.to)) a.fact_is in
        let said_two : said other g ≡ said (Some b.to) (Receives b.from b.cargo) = ap (λ w. said w g) b.who_is ∙ ap (said (Some b.to)) b.fact_is in
        one ∙ one_delivery a.from a.to b.from b.to a.cargo b.cargo (subst (AllByRecursion DeliveryFits) one fits).0 (subst (AllByRecursion DeliveryFits) two fits').0 (sym said_one ∙ e ∙ said_two) ∙ sym two
    by_kind (inl a) (inr b) =
        let said_one : said who f ≡ said (Some a.to) (Receives a.from a.cargo) = ap (λ w. said w f) a.who_is ∙ ap (said (Some a.to)) a.fact_is in
        absurd (apart a.from a.to a.cargo other g b (sym said_one ∙ e))
    by_kind (inr a) (inl b) =
        let said_two : said other g ≡ said (Some b.to) (Receives b.from b.cargo) = ap (λ w. said w g) b.who_is ∙ ap (said (Some b.to)) b.fact_is in
        absurd (apart b.from b.to b.cargo who f a (sym (e ∙ said_two)))
    by_kind (inr a) (inr b) = a.none ∙ sym b.none

-- ---- all lines

begun : (l : Line) (rest : List ℕ) → line_text l ++ rest ≡ decimal l.event ++ 32 ∷ (said l.agent l.fact ++ 10 ∷ rest)
begun l rest =
    ap (λ t. t ++ rest) (line_is l) ∙ append_assoc (decimal l.event) (32 ∷ (said l.agent l.fact ++ 10 ∷ [])) rest
    ∙ ap (λ t. decimal l.event ++ 32 ∷ t) (append_assoc (said l.agent l.fact) (10 ∷ []) rest)

-- what is said in a line, read off a text that begins with it
said_read : (l : Line) (rest : List ℕ) → cut (drop 1 (skip (line_text l ++ rest))) ≡ said l.agent l.fact
said_read l rest =
    ap (λ t. cut (drop 1 (skip t))) (begun l rest) ∙ ap (λ t. cut (drop 1 t)) (skip_digits (decimal l.event) (32 ∷ (said l.agent l.fact ++ 10 ∷ rest)) (all_digits l.event)) ∙ cut_is (said l.agent l.fact) rest (in_said l.agent l.fact)

-- and what follows it
rest_read : (l : Line) (rest : List ℕ) → behind (drop 1 (skip (line_text l ++ rest))) ≡ rest
rest_read l rest =
    ap (λ t. behind (drop 1 (skip t))) (begun l rest) ∙ ap (λ t. behind (drop 1 t)) (skip_digits (decimal l.event) (32 ∷ (said l.agent l.fact ++ 10 ∷ rest)) (all_digits l.event)) ∙ behind_is (said l.agent l.fact) rest (in_said l.agent l.fact)

-- a line begins otherwise than the last one
not_blank : {xs ys : List ℕ} → 32 ∷ xs ≡ 101 ∷ ys → ⊥
not_blank e = cc

no_digit : is_ascii_digit 101 ≡ true → ⊥
no_digit e = cc

begins_otherwise : (ds xs ys : List ℕ) → AllByRecursion IsDigit ds → ds ++ 32 ∷ xs ≡ 101 ∷ ys → ⊥
begins_otherwise [] xs ys h e = not_blank e
begins_otherwise (d ∷ ds) xs ys h e = no_digit (subst IsDigit (first_byte e) h.0)

not_last : (l : Line) (rest more : List ℕ) → line_text l ++ rest ≡ 101 ∷ more → ⊥
not_last l rest more e = begins_otherwise (decimal l.event) (said l.agent l.fact ++ 10 ∷ rest) more (all_digits l.event) (sym (begun l rest) ∙ e)

fits_left : (xs ys : List Delivery) → AllByRecursion DeliveryFits (xs ++ ys) → AllByRecursion DeliveryFits xs
fits_left [] ys h = tt
fits_left (x ∷ xs) ys h = (h.0, fits_left xs ys h.1)

fits_right : (xs ys : List Delivery) → AllByRecursion DeliveryFits (xs ++ ys) → AllByRecursion DeliveryFits ys
fits_right [] ys h = h
fits_right (x ∷ xs) ys h = fits_right xs ys h.1

-- texts that begin with lines, and go on with a last line, are equal only if the lines tell the same deliveries
pub lines_differ : (ls ms : List Line) (rest more : List ℕ) → AllByRecursion DeliveryFits (deliveries_in ls) → AllByRecursion DeliveryFits (deliveries_in ms) → lines_text ls ++ 101 ∷ rest ≡ lines_text ms ++ 101 ∷ more → deliveries_in ls ≡ deliveries_in ms
lines_differ [] [] rest more f g e = refl
lines_differ [] (m ∷ ms) rest more f g e = absurd (not_last m (lines_text ms ++ 101 ∷ more) rest (sym (append_assoc (line_text m) (lines_text ms) (101 ∷ more)) ∙ sym e))
lines_differ (l ∷ ls) [] rest more f g e = absurd (not_last l (lines_text ls ++ 101 ∷ rest) more (sym (append_assoc (line_text l) (lines_text ls) (101 ∷ rest)) ∙ e))
lines_differ (l ∷ ls) (m ∷ ms) rest more f g e =
    let after_l : List ℕ = lines_text ls ++ 101 ∷ rest in
    let after_m : List ℕ = lines_text ms ++ 101 ∷ more in
    let same : line_text l ++ after_l ≡ line_text m ++ after_m = sym (append_assoc (line_text l) (lines_text ls) (101 ∷ rest)) ∙ e ∙ append_assoc (line_text m) (lines_text ms) (101 ∷ more) in
    let first : delivery_of l.agent l.fact ≡ delivery_of m.agent m.fact = same_told l.agent m.agent l.fact m.fact (fits_left (delivery_of l.agent l.fact) (deliveries_in ls) f) (fits_left (delivery_of m.agent m.fact) (deliveries_in ms) g)
    (sym (said_read l after_l) ∙ ap (λ t. cut (drop 1 (skip t))) same ∙ said_read m after_m) in
    let others : deliveries_in ls ≡ deliveries_in ms = lines_differ ls ms rest more (fits_right (delivery_of l.agent l.fact) (deliveries_in ls) f) (fits_right (delivery_of m.agent m.fact) (deliveries_in ms) g)
    (sym (rest_read l after_l) ∙ ap (λ t. behind (drop 1 (skip t))) same ∙ rest_read m after_m) in
    ap (λ x. x ++ deliveries_in ls) first ∙ ap (λ x. delivery_of m.agent m.fact ++ x) others
