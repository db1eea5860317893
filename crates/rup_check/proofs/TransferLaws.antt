-- Literals under other names: a renaming that keeps literals apart and goes along with negation keeps the property.
use Rattle.std.proofs.Common.{◌≡◌, List, inl, inr, map, sym, ap, ◌∙◌, subst}
use Rattle.std.specs.List.{Contains}
use Rattle.rup_check.specs.Propagation.{Forced, given, unit, IsClosed, IsConflict, Conflicts}
use Rattle.rup_check.proofs.PropagationLaws.{contains_map, contains_mapped, conflict_of_closed}

module _ {A B : Type 0} (f : A → B) (Fits : A → Type 0) (na : A → A) (nb : B → B) (apart : (x y : A) → Fits x → Fits y → f x ≡ f y → x ≡ y) (along : (x : A) → Fits x → f (na x) ≡ nb (f x)) (fits_on : (x : A) → Fits x → Fits (na x)) (formula : List (List A)) (start : List A) (formula_fits : (clause : List A) (x : A) → Contains formula clause → Contains clause x → Fits x) (start_fits : (x : A) → Contains start x → Fits x) where
  renamed_forced : (x : A) → Forced na formula start x → Forced nb (map (map f) formula) (map f start) (f x)
  renamed_forced x (given h) = given (contains_mapped f start x h)
  renamed_forced x (unit clause c m g) =
      unit (map f clause) (contains_mapped (map f) formula clause c) (contains_mapped f clause x m)
      (λ z k n. (let r = contains_map f clause z k in
      subst (λ w. Forced nb (map (map f) formula) (map f start) (nb w)) r.2
      (subst (λ w. Forced nb (map (map f) formula) (map f start) w) (along r.0 (formula_fits clause r.0 c r.1))
      (renamed_forced (na r.0) (g r.0 r.1 (λ e. n (sym r.2 ∙ ap f e)))))))

  forced_fits : (x : A) → Forced na formula start x → Fits x
  forced_fits x (given h) = start_fits x h
  forced_fits x (unit clause c m g) = formula_fits clause x c m

  Named : B → Type 0
  Named z = (x : A) × (f x ≡ z) × Fits x × Forced na formula start x

  named_negation : (y : A) → Fits y → Named (nb (f y)) → Forced na formula start (na y)
  unfolding Named
  named_negation y h (w, e, k, g) = subst (λ v. Forced na formula start v) (apart w (na y) k (fits_on y h) (e ∙ sym (along y h))) g

  named_closed : IsClosed nb (map (map f) formula) Named
  unfolding Named
  named_closed c z i j g =
      let p = contains_map (map f) formula c i in
      let q = contains_map f p.0 z (subst (λ w. Contains w z) (sym p.2) j) in
      let h = formula_fits p.0 q.0 p.1 q.1 in
      (q.0, q.2, h, unit p.0 p.1 q.1 (λ y m n. (let k = formula_fits p.0 y p.1 m in named_negation y k (g (f y) (subst (λ w. Contains w (f y)) p.2 (contains_mapped f p.0 y m)) (λ e. n (apart y q.0 k h (e ∙ sym q.2)))))))

  named_start : (z : B) → Contains (map f start) z → Named z
  unfolding Named
  named_start z h = let r = contains_map f start z h in (r.0, r.2, start_fits r.0 r.1, given r.1)

  pub renamed_conflict : Conflicts na formula start → Conflicts nb (map (map f) formula) (map f start)
  renamed_conflict (inl (clause, c, g)) =
      inl (map f clause, contains_mapped (map f) formula clause c, λ z k. (let r = contains_map f clause z k in subst (λ w. Forced nb (map (map f) formula) (map f start) (nb w)) r.2 (subst (λ w. Forced nb (map (map f) formula) (map f start) w) (along r.0 (formula_fits clause r.0 c r.1)) (renamed_forced (na r.0) (g r.0 r.1)))))
  renamed_conflict (inr (x, h, n)) = inr (f x, renamed_forced x h, subst (λ w. Forced nb (map (map f) formula) (map f start) w) (along x (forced_fits x h)) (renamed_forced (na x) n))

  pub original_conflict : Conflicts nb (map (map f) formula) (map f start) → Conflicts na formula start
  unfolding Named
  original_conflict h = of_named (conflict_of_closed nb (map (map f) formula) (map f start) Named named_closed named_start h) where
    of_named : IsConflict nb (map (map f) formula) Named → Conflicts na formula start
    of_named (inl (c, i, g)) = (let p = contains_map (map f) formula c i in inl (p.0, p.1, λ y m. named_negation y (formula_fits p.0 y p.1 m) (g (f y) (subst (λ w. Contains w (f y)) p.2 (contains_mapped f p.0 y m)))))
    of_named (inr (z, (x, e, k, g), n)) = inr (x, g, named_negation x k (subst (λ w. Named (nb w)) (sym e) n))
