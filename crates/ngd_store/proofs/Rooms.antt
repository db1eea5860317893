-- Rooms of an arena, as lists of pairs are added and given back.
use Rattle.std.proofs.Common.{◌≡◌, ◌≢◌, ℕ, zero, suc, ◌+◌, ◌-◌, ◌<◌, ◌≤◌, ◌==◌, Bool, true, false, cond, List, [], ◌∷◌, ◌++◌, length, take, drop, map, get_or, set, Option, Some, None, Result, Ok, Err, OnOk, OnErr, ◌⊎◌, inl, inr, refl, sym, ap, ◌∙◌, subst, arith, All}
use Rattle.std.proofs.lemmas.List.{length-take-le, length-drop, get_or-take, get_or-drop, ext_get_or, get_or_past, get_or-set_same, get_or-set_other, get_or_default, length-map, length-set, map-append}
use Rattle.std.proofs.Math.ListN.{get_or-map}
use Rattle.std.proofs.lemmas.List.Elements.{All-weaker, All-append, All-get_or, All-set, All-cons, All-nil}
use Rattle.std.proofs.lemmas.Bool.Decides.{eqb_tells}
use Rattle.ngd_store.specs.declared.arena.Placed.{Placed}
use Rattle.ngd_store.specs.declared.arena.Room.{Room}
use Rattle.ngd_store.specs.declared.arena.TheConstants.{NO_VAR}
use Rattle.ngd_store.specs.Rooms.{no_cell, no_room, cell_at, room_at, content, IsWithin, Holds, HadBack, AreThere, AreGivenBack, IsTidy, IsAmong, IsSameBeside, HasGivenBack, HasWritten, IsPut}
use Rattle.ngd_store.proofs.Growing.{compared}
use Rattle.ngd_store.proofs.Growing.{index_before, index_last, length_more}

part_length : (cells : List Placed) (start count : ℕ) → start + count ≤ length cells → length (take count (drop start cells)) ≡ count
part_length cells start count l = length-take-le count (drop start cells) (let e = length-drop start cells in omega (arith, e, l))

part_at : (cells : List Placed) (start count i : ℕ) → i < count → get_or (take count (drop start cells)) i no_cell ≡ cell_at cells (start + i)
part_at cells start count i l = get_or-take count (drop start cells) i no_cell l ∙ get_or-drop start cells i no_cell

-- a part of the cells, where each of them is as before
part_same : (old new : List Placed) (start count : ℕ) → start + count ≤ length old → start + count ≤ length new → ((k : ℕ) → start ≤ k → k < start + count → cell_at new k ≡ cell_at old k) → take count (drop start new) ≡ take count (drop start old)
part_same old new start count a b h = ext_get_or no_cell (take count (drop start new)) (take count (drop start old)) (part_length new start count b ∙ sym (part_length old start count a)) (λ i l.
    let m : i < count = (let e = part_length new start count b in omega (arith, e, l)) in
    part_at new start count i m ∙ (h (start + i) (omega arith) (omega (arith, m)) ∙ sym (part_at old start count i m)))

-- a room has what it had, where its cells are as before
content_same : (old new : List Placed) (room : Room) → IsWithin (length old) room → IsWithin (length new) room → ((k : ℕ) → Holds room k → cell_at new k ≡ cell_at old k) → content new room ≡ content old room
content_same old new room a b h = by_kept room.kept refl
  where
    by_kept : (t : Bool) → room.kept ≡ t → cond t (Some (take room.len (drop room.start new))) None ≡ cond t (Some (take room.len (drop room.start old))) None
    by_kept true e = ap Some (part_same old new room.start room.len a b (λ k f t. h k (record { kept = e; from = f; to = t })))
    by_kept false e = refl

-- a room beyond the last holds nothing
held_room : (rooms : List Room) (i k : ℕ) → Holds (room_at rooms i) k → i < length rooms
held_room rooms i k h = elim (compared i (length rooms)) [
  | inl l ↦ l
  | inr l ↦ absurd (let past = get_or_past rooms i no_room (elim l [ inl e ↦ omega (arith, e) | inr m ↦ omega (arith, m) ]) in let e : false ≡ true = sym (ap (λ (r : Room). r.kept) past) ∙ h.kept in cc)
]

held_there : (cells : List Placed) (rooms : List Room) (i k : ℕ) → IsTidy cells rooms → Holds (room_at rooms i) k → k < length cells
held_there cells rooms i k tidy h =
    let w = All-get_or (IsWithin (length cells)) rooms i no_room (held_room rooms i k h) tidy.within in
    let t = h.to in
    omega (arith, w, t)

-- the contents are as before, where each cell of a kept room is
contents_same : (old new : List Placed) (rooms : List Room) → All (IsWithin (length old)) rooms → length old ≤ length new → ((i k : ℕ) → Holds (room_at rooms i) k → cell_at new k ≡ cell_at old k) → map (content new) rooms ≡ map (content old) rooms
contents_same old new rooms within longer h = ext_get_or None (map (content new) rooms) (map (content old) rooms) (length-map rooms (content new) ∙ sym (length-map rooms (content old))) (λ i l.
    let m : i < length rooms = (let e = length-map rooms (content new) in omega (arith, e, l)) in
    let w = All-get_or (IsWithin (length old)) rooms i no_room m within in
    get_or-map (content new) rooms i no_room ∙ (content_same old new (room_at rooms i) w (omega (arith, w, longer)) (h i) ∙ sym (get_or-map (content old) rooms i no_room)))

module _ (old new : List Placed) (pairs : List Placed) (room : Room) (rooms : List Room) (tidy : IsTidy old rooms) (put : IsPut old new pairs room) where
  -- no kept room has a cell that was written
  free : (i k : ℕ) → Holds (room_at rooms i) k → room.start ≤ k → k < room.start + room.len → ⊥
  free i k h f t = tidy.free room.start i k (put.back k f t (held_there old rooms i k tidy h)) h

  same : (i k : ℕ) → Holds (room_at rooms i) k → cell_at new k ≡ cell_at old k
  same i k h = elim (compared k room.start) [
    | inl l ↦ put.beside.before k l
    | inr l ↦ elim (compared k (room.start + room.len)) [
      | inl t ↦ absurd (free i k h (elim l [ inl e ↦ omega (arith, e) | inr m ↦ omega (arith, m) ]) t)
      | inr t ↦ put.beside.after k (elim t [ inl e ↦ omega (arith, e) | inr m ↦ omega (arith, m) ])
    ]
  ]

  pub put_same : map (content new) rooms ≡ map (content old) rooms
  put_same = contents_same old new rooms tidy.within put.beside.longer same

  module _ (named : All (λ pair. pair.var < NO_VAR) pairs) where
    more : (i k : ℕ) → Holds (room_at (rooms ++ room ∷ []) i) k → (Holds (room_at rooms i) k) ⊎ ((i ≡ length rooms) × (Holds room k))
    more i k h = elim (compared i (length rooms)) [
      | inl l ↦ inl (subst (λ (r : Room). Holds r k) (index_before rooms room no_room i l) h)
      | inr l ↦ elim l [
        | inl e ↦ inr (e, subst (λ (r : Room). Holds r k) (ap (room_at (rooms ++ room ∷ [])) e ∙ index_last rooms room no_room) h)
        | inr m ↦ absurd (let n = held_room (rooms ++ room ∷ []) i k h in let e = length_more rooms room in omega (arith, n, e, m))
      ]
    ]

    written : (k : ℕ) → Holds room k → (cell_at new k).var < NO_VAR
    written k h =
        let f = h.from in
        let t = h.to in
        let i : k - room.start < room.len = omega (arith, f, t) in
        let e : room.start + (k - room.start) ≡ k = omega (arith, f) in
        let at : get_or pairs (k - room.start) no_cell ≡ cell_at new k = ap (λ (ps : List Placed). get_or ps (k - room.start) no_cell) (sym put.written) ∙ (part_at new room.start room.len (k - room.start) i ∙ ap (cell_at new) e) in
        let c = put.count in
        subst (λ (cell : Placed). cell.var < NO_VAR) at (All-get_or (λ (pair : Placed). pair.var < NO_VAR) pairs (k - room.start) no_cell (omega (arith, i, c)) named)

    -- what is given back still was
    outside : (s k : ℕ) → HadBack new s k → IsAmong room.start room.len s → ⊥
    outside s k h a = let w = written s (record { kept = put.kept; from = a.from; to = a.to }) in let m = h.mark in omega (arith, w, m)

    by_cell : (s k : ℕ) → cell_at new s ≡ cell_at old s → HadBack new s k → HadBack old s k
    by_cell s k e h = record { mark = ap (λ (cell : Placed). cell.var) (sym e) ∙ h.mark; from = h.from; to = let t = h.to in let p = ap (λ (cell : Placed). cell.place) e in omega (arith, t, p) }

    still : (s k : ℕ) → HadBack new s k → HadBack old s k
    still s k h = elim (compared s room.start) [
      | inl l ↦ by_cell s k (put.beside.before s l) h
      | inr l ↦ elim (compared s (room.start + room.len)) [
        | inl t ↦ absurd (outside s k h (record { from = elim l [ inl e ↦ omega (arith, e) | inr m ↦ omega (arith, m) ]; to = t }))
        | inr t ↦ by_cell s k (put.beside.after s (elim t [ inl e ↦ omega (arith, e) | inr m ↦ omega (arith, m) ])) h
      ]
    ]

    -- the rooms are tidy, and have what they had
    pub put_tidy : IsTidy new rooms
    put_tidy = record {
      within = All-weaker (IsWithin (length old)) (IsWithin (length new)) (λ room w. let l = put.beside.longer in omega (arith, w, l)) rooms tidy.within;
      in_use = λ i k h. subst (λ (cell : Placed). cell.var < NO_VAR) (sym (same i k h)) (tidy.in_use i k h);
      apart = tidy.apart;
      there = λ s k h. let t = tidy.there s k (still s k h) in let l = put.beside.longer in omega (arith, t, l);
      free = λ s i k h g. tidy.free s i k (still s k h) g;
      distinct = λ s t k h g. tidy.distinct s t k (still s k h) (still t k g);
    }

    -- nothing that is given back has a cell that was written
    clear : (s k : ℕ) → HadBack new s k → Holds room k → ⊥
    clear s k h g =
        let o = still s k h in
        let e = tidy.distinct s room.start k o (put.back k g.from g.to (tidy.there s k o)) in
        let f = g.from in
        let t = g.to in
        outside s k h (record { from = omega (arith, e); to = omega (arith, e, f, t) })

    -- with one room more
    pub added_tidy : IsTidy new (rooms ++ room ∷ [])
    added_tidy = record {
      within = All-append (IsWithin (length new)) rooms (room ∷ []) put_tidy.within (All-cons (IsWithin (length new)) room [] put.there (All-nil (IsWithin (length new))));
      in_use = λ i k h. elim (more i k h) [
        | inl o ↦ put_tidy.in_use i k o
        | inr n ↦ written k n.1
      ];
      apart = λ i j k h g. elim (more i k h) [
        | inl o ↦ elim (more j k g) [
          | inl p ↦ tidy.apart i j k o p
          | inr n ↦ absurd (free i k o n.1.from n.1.to)
        ]
        | inr m ↦ elim (more j k g) [
          | inl p ↦ absurd (free j k p m.1.from m.1.to)
          | inr n ↦ m.0 ∙ sym n.0
        ]
      ];
      there = put_tidy.there;
      free = λ s i k h g. elim (more i k g) [
        | inl o ↦ put_tidy.free s i k h o
        | inr n ↦ clear s k h n.1
      ];
      distinct = put_tidy.distinct;
    }

    in_room : content new room ≡ Some pairs
    in_room = ap (λ b. cond b (Some (take room.len (drop room.start new))) None) put.kept ∙ ap Some put.written

    pub added_content : map (content new) (rooms ++ room ∷ []) ≡ map (content old) rooms ++ Some pairs ∷ []
    added_content = map-append (content new) rooms (room ∷ []) ∙ (ap (λ (xs : List (Option (List Placed))). xs ++ content new room ∷ []) put_same ∙ ap (λ (o : Option (List Placed)). map (content old) rooms ++ o ∷ []) in_room)

-- what holds whichever way a call ended
pub either : {T E X : Type 0} (r : Result T E) (P : X → Type 0) (x a b : X) → OnOk r (x ≡ a) → OnErr r (x ≡ b) → P a → P b → P x
either (Ok t) P x a b o e p q = subst P (sym o) p
either (Err t) P x a b o e p q = subst P (sym e) q

module _ (old new : List Placed) (rooms : List Room) (number : ℕ) (tidy : IsTidy old rooms) (there : number < length rooms) (given : HasGivenBack old new (room_at rooms number).start (room_at rooms number).len) (kept : (room_at rooms number).kept ≡ true) where
  beside : IsSameBeside old new (room_at rooms number).start (room_at rooms number).len
  beside = given.beside

  abbrev pub shut : Room
  shut = record { start = (room_at rooms number).start; len = (room_at rooms number).len; kept = false }

  other : (i k : ℕ) → Holds (room_at (set rooms number shut) i) k → (i ≢ number) × (Holds (room_at rooms i) k)
  other i k h = elim (eqb_tells i number) [
    | inl e ↦ absurd (let f : room_at (set rooms number shut) i ≡ shut = ap (room_at (set rooms number shut)) e.1 ∙ get_or-set_same rooms number shut no_room there in let c : false ≡ true = sym (ap (λ (r : Room). r.kept) f) ∙ h.kept in cc)
    | inr e ↦ (e.1, subst (λ (r : Room). Holds r k) (get_or-set_other rooms number i shut no_room e.1) h)
  ]

  same_other : (i k : ℕ) → i ≢ number → Holds (room_at rooms i) k → cell_at new k ≡ cell_at old k
  same_other i k e h = elim (compared k (room_at rooms number).start) [
    | inl l ↦ beside.before k l
    | inr l ↦ elim (compared k ((room_at rooms number).start + (room_at rooms number).len)) [
      | inl t ↦ absurd (e (tidy.apart i number k h (record { kept = kept; from = elim l [ inl q ↦ omega (arith, q) | inr m ↦ omega (arith, m) ]; to = t })))
      | inr t ↦ beside.after k (elim t [ inl q ↦ omega (arith, q) | inr m ↦ omega (arith, m) ])
    ]
  ]

  held : {k : ℕ} → IsAmong (room_at rooms number).start (room_at rooms number).len k → Holds (room_at rooms number) k
  held a = record { kept = kept; from = a.from; to = a.to }

  -- the rooms without this one
  pub cleared_tidy : IsTidy new (set rooms number shut)
  cleared_tidy = record {
    within = All-weaker (IsWithin (length old)) (IsWithin (length new)) (λ room w. let l = beside.longer in omega (arith, w, l)) (set rooms number shut) (All-set (IsWithin (length old)) rooms number shut (All-get_or (IsWithin (length old)) rooms number no_room there tidy.within) tidy.within);
    in_use = λ i k h. let o = other i k h in subst (λ (cell : Placed). cell.var < NO_VAR) (sym (same_other i k o.0 o.1)) (tidy.in_use i k o.1);
    apart = λ i j k h g. tidy.apart i j k (other i k h).1 (other j k g).1;
    there = λ s k h. elim (given.back s k h) [
      | inl o ↦ (let t = tidy.there s k o in let l = given.same in omega (arith, t, l))
      | inr n ↦ (let w = All-get_or (IsWithin (length old)) rooms number no_room there tidy.within in let t = n.1.to in let l = given.same in omega (arith, w, t, l))
    ];
    free = λ s i k h g. let o = other i k g in elim (given.back s k h) [
      | inl b ↦ tidy.free s i k b o.1
      | inr n ↦ o.0 (tidy.apart i number k o.1 (held n.1))
    ];
    distinct = λ s t k h g. elim (given.back s k h) [
      | inl b ↦ elim (given.back t k g) [
        | inl d ↦ tidy.distinct s t k b d
        | inr n ↦ absurd (tidy.free s number k b (held n.1))
      ]
      | inr m ↦ elim (given.back t k g) [
        | inl d ↦ absurd (tidy.free t number k d (held m.1))
        | inr n ↦ m.0 ∙ sym n.0
      ]
    ];
  }

  pub cleared_content : (i : ℕ) → get_or (map (content new) (set rooms number shut)) i None ≡ cond (i == number) None (get_or (map (content old) rooms) i None)
  cleared_content i = get_or-map (content new) (set rooms number shut) i no_room ∙ elim (eqb_tells i number) [
    | inl e ↦ rw e.0 (ap (content new) (ap (room_at (set rooms number shut)) e.1 ∙ get_or-set_same rooms number shut no_room there))
    | inr e ↦ rw e.0 (ap (content new) (get_or-set_other rooms number i shut no_room e.1) ∙ (as_before e.1 ∙ sym (get_or-map (content old) rooms i no_room)))
  ]
    where
      as_before : i ≢ number → content new (room_at rooms i) ≡ content old (room_at rooms i)
      as_before e = elim (compared i (length rooms)) [
        | inl l ↦
            let w = All-get_or (IsWithin (length old)) rooms i no_room l tidy.within in
            let m = beside.longer in
            content_same old new (room_at rooms i) w (omega (arith, w, m)) (λ k h. same_other i k e h)
        | inr l ↦
            let past = get_or_past rooms i no_room (elim l [ inl q ↦ omega (arith, q) | inr m ↦ omega (arith, m) ]) in
            ap (content new) past ∙ sym (ap (content old) past)
      ]

-- a mark tells of a list that was given back
pub marked : (cells : List Placed) (start count : ℕ) (cell d : Placed) → AreThere cells → start < length cells → cell ≡ get_or cells start d → cell.var ≡ NO_VAR → cell.place ≡ count → AreGivenBack cells start count
marked cells start count cell d all l e v n = record { there = fits count n; back = λ k f t. had k f t }
  where
    at : cell_at cells start ≡ cell
    at = get_or_default cells start no_cell d l ∙ sym e

    had : (k : ℕ) → start ≤ k → k < start + count → HadBack cells start k
    had k f t = record { mark = ap (λ (c : Placed). c.var) at ∙ v; from = f; to = let p = ap (λ (c : Placed). c.place) at in omega (arith, t, p, n) }

    fits : (m : ℕ) → cell.place ≡ m → start + count ≤ length cells
    fits zero z = omega (arith, l, z, n)
    fits (suc m) z = let k = all start (start + m) (had (start + m) (omega arith) (omega (arith, z, n))) in omega (arith, k, z, n)

-- a mark that is made tells of a list that is given back
pub marks : (cells : List Placed) (start len : ℕ) → start + len ≤ length cells → 0 < len → HasGivenBack cells (set cells start (record { var = NO_VAR; place = len })) start len
marks cells start len fits some = record {
  beside = record {
    before = λ k l. get_or-set_other cells start k mark no_cell (λ e. omega (arith, l, e));
    after = λ k l. get_or-set_other cells start k mark no_cell (λ e. omega (arith, l, e, some));
    longer = let e = length-set cells start mark in omega (arith, e);
  };
  same = length-set cells start mark;
  back = λ s k h. elim (eqb_tells s start) [
    | inl e ↦ inr (e.1, here s k e.1 h)
    | inr e ↦ inl (other s k e.1 h)
  ];
}
  where
    mark : Placed
    mark = record { var = NO_VAR; place = len }

    here : (s k : ℕ) → s ≡ start → HadBack (set cells start mark) s k → IsAmong start len k
    here s k e h =
        let at : cell_at (set cells start mark) s ≡ mark = ap (cell_at (set cells start mark)) e ∙ get_or-set_same cells start mark no_cell (omega (arith, fits, some)) in
        let p = ap (λ (c : Placed). c.place) at in
        let f = h.from in
        let t = h.to in
        record { from = omega (arith, f, e); to = omega (arith, t, p, e) }

    other : (s k : ℕ) → s ≢ start → HadBack (set cells start mark) s k → HadBack cells s k
    other s k e h =
        let at : cell_at (set cells start mark) s ≡ cell_at cells s = get_or-set_other cells start s mark no_cell e in
        let p = ap (λ (c : Placed). c.place) at in
        let t = h.to in
        record { mark = sym (ap (λ (c : Placed). c.var) at) ∙ h.mark; from = h.from; to = omega (arith, t, p) }

pub marks_none : (cells : List Placed) (start : ℕ) → HasGivenBack cells cells start 0
marks_none cells start = record {
  beside = record { before = λ k l. refl; after = λ k l. refl; longer = omega arith };
  same = refl;
  back = λ s k h. inl h;
}

-- cells that were given back are used again
pub reused : (old new pairs : List Placed) (room : Room) (start : ℕ) → room ≡ record { start = start; len = length pairs; kept = true } → HasWritten old new start pairs → AreGivenBack old start (length pairs) → IsPut old new pairs room
reused old new pairs room start e w b = subst (IsPut old new pairs) (sym e) (record { kept = refl; count = refl; beside = w.beside; there = w.there; written = w.written; back = λ k f t l. b.back k f t })
