-- What a message stored behind a list makes of all lists.
use Rattle.std.proofs.Common.{◌≡◌, ◌≢◌, ℕ, suc, ◌+◌, ◌-◌, ◌<◌, ◌⊎◌, inl, inr, List, [], ◌∷◌, ◌++◌, map, length, get_or, set, sum_by, refl, sym, ◌∙◌, ap, subst, arith, get_or-set_same, get_or-set_other, IsSome}
use Rattle.std.proofs.lemmas.Bool.{cases_eq, cases_lt}
use Rattle.std.proofs.lemmas.List.{ext_get_or, get_or-map, length-set, length-map, get_or_default}
use Rattle.std.proofs.lemmas.List.Sums.{sum_by-set, sum_by-cons}
use Rattle.abt_parts.specs.declared.message.Message.{Message}
use Rattle.abt_links.specs.declared.queues.Ends.{Ends}
use Rattle.abt_links.specs.Chains.{Cells, cell_at, next_of, message_in, key_after, messages_from, messages_of, no_ends, ends_at, key_in, IsSound, IsAdded}
use Rattle.abt_links.proofs.Walks.{key_more, length-messages, SameWalk, same_keys, same_messages, own_messages, not_fresh}

module _ (s t : Cells) (ends : List Ends) (p : ℕ) (e : Ends) (m : Message) (sound : IsSound s ends) (added : IsAdded s t (ends_at ends p) e m) (within : p < length ends) where
  -- a cell of another list, or not the last of this one, is as it was
  pub old_cell : (i a : ℕ) → a < (ends_at ends i).count → (i ≢ p) ⊎ (a + 1 < (ends_at ends p).count) → cell_at t (key_in s ends i a) ≡ cell_at s (key_in s ends i a)
  old_cell i a below which =
      added.others (key_in s ends i a)
      (not_fresh s (key_in s ends i a) e.last (sound.live i a below) added.fresh)
      (λ some same.
      let last : (ends_at ends p).last ≡ key_in s ends p ((ends_at ends p).count - 1) = sound.last p some in
      let fit : (ends_at ends p).count - 1 < (ends_at ends p).count = omega arith in
      let both : (i ≡ p) × (a ≡ (ends_at ends p).count - 1) = sound.apart i p a ((ends_at ends p).count - 1) below fit (same ∙ last) in
      elim which [ inl other ↦ other both.0 | inr early ↦ absurd (omega (arith, both.1)) ])

  pub other_walk : (i : ℕ) → i ≢ p → SameWalk s t (ends_at ends i).count (ends_at ends i).first
  other_walk i other = record { same = λ a below. old_cell i a below (inl other) }

  pub own_walk : SameWalk s t ((ends_at ends p).count - 1) (ends_at ends p).first
  own_walk = record { same = λ a below. old_cell p a (omega arith) (inr (omega arith)) }

  -- the new last key
  pub own_last : key_after t e.first (ends_at ends p).count ≡ e.last
  own_last = elim (cases_lt 0 (ends_at ends p).count) [
    | inl some ↦
        let n : ℕ = (ends_at ends p).count - 1 in
        let more : (ends_at ends p).count ≡ suc n = omega arith in
        let at : key_after t (ends_at ends p).first n ≡ key_after s (ends_at ends p).first n = same_keys s t n (ends_at ends p).first own_walk n (omega arith) in
        let last : (ends_at ends p).last ≡ key_after s (ends_at ends p).first n = sound.last p some in
        ap (λ k. key_after t k (ends_at ends p).count) (added.first some)
        ∙ ap (λ c. key_after t (ends_at ends p).first c) more
        ∙ key_more t n (ends_at ends p).first
        ∙ ap (λ k. next_of (cell_at t k)) (at ∙ sym last)
        ∙ added.linked some
    | inr none ↦
        let zero_is : (ends_at ends p).count ≡ 0 = omega arith in
        ap (λ c. key_after t e.first c) zero_is ∙ added.alone zero_is
  ]

  -- the old keys
  pub own_keys : (a : ℕ) → a < (ends_at ends p).count → key_after t e.first a ≡ key_after s (ends_at ends p).first a
  own_keys a below =
      ap (λ k. key_after t k a) (added.first (omega arith))
      ∙ same_keys s t ((ends_at ends p).count - 1) (ends_at ends p).first own_walk a (omega arith)

  -- the messages of the list
  pub own_list : messages_of t e ≡ messages_of s (ends_at ends p) ++ m ∷ []
  own_list = elim (cases_lt 0 (ends_at ends p).count) [
    | inl some ↦
        let n : ℕ = (ends_at ends p).count - 1 in
        let more : (ends_at ends p).count ≡ suc n = omega arith in
        let last : (ends_at ends p).last ≡ key_after s (ends_at ends p).first n = sound.last p some in
        let twice : e.count ≡ suc (suc n) = omega (arith, added.count) in
        ap (λ c. messages_from t c e.first) twice
        ∙ ap (λ k. messages_from t (suc (suc n)) k) (added.first some)
        ∙ own_messages s t n (ends_at ends p).first e.last m own_walk
        (subst (λ k. message_in (cell_at t k) ≡ message_in (cell_at s k)) last (added.same some))
        (subst (λ k. next_of (cell_at t k) ≡ e.last) last (added.linked some))
        added.stored
        ∙ ap (λ c. messages_from s c (ends_at ends p).first ++ m ∷ []) (sym more)
    | inr none ↦
        let zero_is : (ends_at ends p).count ≡ 0 = omega arith in
        let one : e.count ≡ suc 0 = omega (arith, added.count) in
        ap (λ c. messages_from t c e.first) one
        ∙ ap (λ k. message_in (cell_at t k) ∷ []) (added.alone zero_is)
        ∙ ap (λ x. x ∷ []) added.stored
        ∙ ap (λ c. messages_from s c (ends_at ends p).first ++ m ∷ []) (sym zero_is)
  ]

  -- the lists after the step
  abbrev pub ends' : List Ends
  ends' = set ends p e

  pub at_p : ends_at ends' p ≡ e
  at_p = get_or-set_same ends p e no_ends within

  pub at_other : (i : ℕ) → i ≢ p → ends_at ends' i ≡ ends_at ends i
  at_other i other = get_or-set_other ends p i e no_ends other

  -- which list and which place
  pub record Old (i a : ℕ) : Type 0 where
    pub below : a < (ends_at ends i).count
    pub key : key_in t ends' i a ≡ key_in s ends i a

  pub record New (i a : ℕ) : Type 0 where
    pub list : i ≡ p
    pub place : a ≡ (ends_at ends p).count
    pub key : key_in t ends' i a ≡ e.last

  pub old_or_new : (i a : ℕ) → a < (ends_at ends' i).count → Old i a ⊎ New i a
  old_or_new i a below = elim (cases_eq i p) [
    | inl here ↦
        let count : (ends_at ends' i).count ≡ e.count = ap (λ j. (ends_at ends' j).count) here ∙ ap (λ (x : Ends). x.count) at_p in
        let first : key_in t ends' i a ≡ key_after t e.first a = ap (λ j. key_in t ends' j a) here ∙ ap (λ (x : Ends). key_after t x.first a) at_p in
        let same_count : (ends_at ends i).count ≡ (ends_at ends p).count = ap (λ j. (ends_at ends j).count) here in
        elim (cases_lt a (ends_at ends p).count) [
          | inl early ↦ inl (record { below = omega arith; key = first ∙ own_keys a early ∙ ap (λ j. key_in s ends j a) (sym here) })
          | inr late ↦
              let place : a ≡ (ends_at ends p).count = omega (arith, added.count) in
              inr (record { list = here; place = place; key = first ∙ ap (λ b. key_after t e.first b) place ∙ own_last })
        ]
    | inr other ↦
        let count : (ends_at ends' i).count ≡ (ends_at ends i).count = ap (λ (x : Ends). x.count) (at_other i other) in
        inl (record {
          below = omega arith;
          key = ap (λ (x : Ends). key_after t x.first a) (at_other i other)
              ∙ same_keys s t (ends_at ends i).count (ends_at ends i).first (other_walk i other) a (omega arith);
        })
  ]

  -- what lives, lives on
  pub lives : (i a : ℕ) → a < (ends_at ends i).count → IsSome (cell_at t (key_in s ends i a))
  lives i a below = elim (cases_lt 0 (ends_at ends p).count) [
    | inl some ↦ elim (cases_eq (key_in s ends i a) (ends_at ends p).last) [
      | inl last ↦ subst (λ k. IsSome (cell_at t k)) (sym last) (added.kept some)
      | inr before ↦ subst IsSome (sym (added.others (key_in s ends i a) (not_fresh s (key_in s ends i a) e.last (sound.live i a below) added.fresh) (λ _. before))) (sound.live i a below)
    ]
    | inr none ↦ subst IsSome (sym (added.others (key_in s ends i a) (not_fresh s (key_in s ends i a) e.last (sound.live i a below) added.fresh) (λ some. absurd (omega arith)))) (sound.live i a below)
  ]

  clash : {X : Type 0} (i a : ℕ) → Old i a → key_in t ends' i a ≡ e.last → X
  clash i a old same = absurd (not_fresh s (key_in s ends i a) e.last (sound.live i a old.below) added.fresh (sym old.key ∙ same))

  pub added-sound : IsSound t (set ends p e)
  added-sound = record {
    live = λ i a below. elim (old_or_new i a below) [
      | inl old ↦ subst (λ k. IsSome (cell_at t k)) (sym old.key) (lives i a old.below)
      | inr new ↦ subst (λ k. IsSome (cell_at t k)) (sym new.key) added.live
    ];
    apart = λ i j a b below_a below_b same. elim (old_or_new i a below_a) [
      | inl old ↦ elim (old_or_new j b below_b) [
        | inl old' ↦ sound.apart i j a b old.below old'.below (sym old.key ∙ same ∙ old'.key)
        | inr new' ↦ clash i a old (same ∙ new'.key)
      ]
      | inr new ↦ elim (old_or_new j b below_b) [
        | inl old' ↦ clash j b old' (sym same ∙ new.key)
        | inr new' ↦ (new.list ∙ sym new'.list, new.place ∙ sym new'.place)
      ]
    ];
    last = λ i some. elim (cases_eq i p) [
      | inl here ↦
          let count : (ends_at ends' i).count ≡ e.count = ap (λ j. (ends_at ends' j).count) here ∙ ap (λ (x : Ends). x.count) at_p in
          let place : (ends_at ends' i).count - 1 ≡ (ends_at ends p).count = omega (arith, added.count) in
          ap (λ j. (ends_at ends' j).last) here ∙ ap (λ (x : Ends). x.last) at_p
          ∙ sym own_last
          ∙ ap (λ (x : Ends). key_after t x.first (ends_at ends p).count) (sym at_p)
          ∙ ap (λ j. key_in t ends' j (ends_at ends p).count) (sym here)
          ∙ ap (λ b. key_in t ends' i b) (sym place)
      | inr other ↦
          let count : (ends_at ends' i).count ≡ (ends_at ends i).count = ap (λ (x : Ends). x.count) (at_other i other) in
          let is_some_there : 0 < (ends_at ends i).count = omega arith in
          ap (λ (x : Ends). x.last) (at_other i other)
          ∙ sound.last i is_some_there
          ∙ sym (same_keys s t (ends_at ends i).count (ends_at ends i).first (other_walk i other) ((ends_at ends i).count - 1) (omega arith))
          ∙ ap (λ (x : Ends). key_after t x.first ((ends_at ends i).count - 1)) (sym (at_other i other))
          ∙ ap (λ c. key_in t ends' i (c - 1)) (sym count)
    ];
    counted = omega (arith, added.len, added.count, sound.counted, sum_by-set (λ (x : Ends). x.count) ends p e no_ends within);
  }

  -- what callers see
  pub added-view : map (messages_of t) (set ends p e) ≡ set (map (messages_of s) ends) p (get_or (map (messages_of s) ends) p [] ++ m ∷ [])
  added-view = ext_get_or [] (map (messages_of t) ends') (set (map (messages_of s) ends) p (get_or (map (messages_of s) ends) p [] ++ m ∷ []))
      (length-map ends' (messages_of t) ∙ length-set ends p e ∙ sym (length-map ends (messages_of s)) ∙ sym (length-set (map (messages_of s) ends) p (get_or (map (messages_of s) ends) p [] ++ m ∷ [])))
      (λ i below.
      let long : length (map (messages_of t) ends') ≡ length ends' = length-map ends' (messages_of t) in
      let short : length ends' ≡ length ends = length-set ends p e in
      let wide : length (map (messages_of s) ends) ≡ length ends = length-map ends (messages_of s) in
      let there : i < length ends' = omega arith in
      get_or-map (messages_of t) ends' i no_ends [] there
      ∙ elim (cases_eq i p) [
        | inl here ↦
            ap (λ j. messages_of t (ends_at ends' j)) here ∙ ap (messages_of t) at_p ∙ own_list
            ∙ ap (λ ms. ms ++ m ∷ []) (sym (get_or-map (messages_of s) ends p no_ends [] within))
            ∙ sym (get_or-set_same (map (messages_of s) ends) p (get_or (map (messages_of s) ends) p [] ++ m ∷ []) [] (omega arith))
            ∙ ap (λ j. get_or (set (map (messages_of s) ends) p (get_or (map (messages_of s) ends) p [] ++ m ∷ [])) j []) (sym here)
        | inr other ↦
            ap (messages_of t) (at_other i other)
            ∙ same_messages s t (ends_at ends i).count (ends_at ends i).first (other_walk i other)
            ∙ sym (get_or-map (messages_of s) ends i no_ends [] (omega arith))
            ∙ sym (get_or-set_other (map (messages_of s) ends) p i (get_or (map (messages_of s) ends) p [] ++ m ∷ []) [] other)
      ])

-- what is read in the code
is_at : (ends : List Ends) (p : ℕ) (before : Ends) → p < length ends → before ≡ get_or ends p before → before ≡ ends_at ends p
is_at ends p before within read = read ∙ get_or_default ends p before no_ends within

pub width : (s : Cells) (ends : List Ends) (lists : List (List Message)) → map (messages_of s) ends ≡ lists → length lists ≡ length ends
width s ends lists shown = sym (ap length shown) ∙ length-map ends (messages_of s)

pub push-sound : (s t : Cells) (ends : List Ends) (lists : List (List Message)) (p : ℕ) (before e : Ends) (m : Message)
    → map (messages_of s) ends ≡ lists → p < length lists → before ≡ get_or ends p before → IsSound s ends → IsAdded s t before e m
    → IsSound t (set ends p e)
push-sound s t ends lists p before e m shown inside read sound added =
    let within : p < length ends = omega (arith, width s ends lists shown) in
    added-sound s t ends p e m sound (subst (λ b. IsAdded s t b e m) (is_at ends p before within read) added) within

pub push-view : (s t : Cells) (ends : List Ends) (lists : List (List Message)) (p : ℕ) (before e : Ends) (m : Message)
    → map (messages_of s) ends ≡ lists → p < length lists → before ≡ get_or ends p before → IsSound s ends → IsAdded s t before e m
    → map (messages_of t) (set ends p e) ≡ set lists p (get_or lists p [] ++ m ∷ [])
push-view s t ends lists p before e m shown inside read sound added =
    let within : p < length ends = omega (arith, width s ends lists shown) in
    subst (λ l. map (messages_of t) (set ends p e) ≡ set l p (get_or l p [] ++ m ∷ [])) shown
    (added-view s t ends p e m sound (subst (λ b. IsAdded s t b e m) (is_at ends p before within read) added) within)

-- how many messages there are
pub sum-lengths : (s : Cells) (ends : List Ends) → sum_by (λ (ms : List Message). length ms) (map (messages_of s) ends) ≡ sum_by (λ (e : Ends). e.count) ends
sum-lengths s [] = refl
sum-lengths s (e ∷ ends) =
    sum_by-cons (λ (ms : List Message). length ms) (messages_of s e) (map (messages_of s) ends)
    ∙ ap (λ n. n + sum_by (λ (ms : List Message). length ms) (map (messages_of s) ends)) (length-messages s e.count e.first)
    ∙ ap (λ n. e.count + n) (sum-lengths s ends)
    ∙ sym (sum_by-cons (λ (x : Ends). x.count) e ends)

pub all-lengths : (s : Cells) (ends : List Ends) (lists : List (List Message)) → map (messages_of s) ends ≡ lists → sum_by (λ (ms : List Message). length ms) lists ≡ sum_by (λ (e : Ends). e.count) ends
all-lengths s ends lists shown = ap (sum_by (λ (ms : List Message). length ms)) (sym shown) ∙ sum-lengths s ends
