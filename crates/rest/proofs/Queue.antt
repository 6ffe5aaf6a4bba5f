-- What a list of points holds when further points are met: all of them, none twice, what it held before at its indices.
-- A list of points within bounds has at most as many as there are. Assumes nothing.
use Prim.Native.Nat.{ℕ, suc, ◌+◌, ◌*◌, ◌%◌, ◌<◌, ◌≤◌}
use mathlib.Core.Path.{◌≡◌, refl, sym, ◌∙◌, ap, subst}
use mathlib.Core.Logic.{◌⊎◌, inl, inr, ◌↔◌}
use mathlib.Core.List.{List, [], ◌∷◌, ◌++◌}
use mathlib.Core.Bool.{Bool, true, false, false≢true, and-eq-true_iff}
use native.Mathlib.Omega.{arith}
use native.Mathlib.Nat.{eq_of_mul-eq-mul_right, mul-add-mod_self_right, mod-eq_of_lt, mul-le-mul_right}
use native.Mathlib.Nat.{suc-mul, mul_comm}
use native.Mathlib.Decide.{dec_lt}
use lib.ListN.{get_or, length, length-append, get_or-append}
use lib.Seq.{get_or-append-add}
use lib.Dec.{eqb}
use borrow.Author.Tests.{eqb-true, eq-eqb}
use Rattle.sets.specs.Sets.{In}
use Rattle.sets.proofs.Members.{All, at_in, in_at, in_append, append_in, any_iff}
use Rattle.lasso.proofs.Positions.{pigeon}
use Rattle.rest.specs.Search.{Point, point, same_point, member, visit, visit_all}

-- ---- members

same_iff : (x y : Point) → same_point x y ≡ true ↔ (x ≡ y)
same_iff x y = (there, back)
  where
    there : same_point x y ≡ true → x ≡ y
    there e =
        let (p, q) = (and-eq-true_iff (eqb x.position y.position) _).0 e in
        let u = eqb-true x.position y.position p in
        let v = eqb-true x.state y.state q in
        λ i. record { position = u i; state = v i }

    back : x ≡ y → same_point x y ≡ true
    back e = (and-eq-true_iff (eqb x.position y.position) _).1 (
      eq-eqb x.position y.position (ap (λ (z : Point). z.position) e),
      eq-eqb x.state y.state (ap (λ (z : Point). z.state) e),
    )

pub member_iff : (x : Point) (ys : List Point) → member x ys ≡ true ↔ In x ys
member_iff x ys = (there, back)
  where
    there : member x ys ≡ true → In x ys
    there e =
        let (y, m, q) = (any_iff (same_point x) ys).0 e in
        subst (λ (z : Point). In z ys) (sym ((same_iff x y).0 q)) m

    back : In x ys → member x ys ≡ true
    back m = (any_iff (same_point x) ys).1 (x, m, (same_iff x x).1 refl)

-- ---- no point twice

-- the point at an index
abbrev pub at : List Point → ℕ → Point
at xs i = get_or xs i (point 0 0)

-- no two indices hold the same point
pub record Unique (xs : List Point) : Type 0 where
  pub apart : (i j : ℕ) → i < j → j < length xs → at xs i ≡ at xs j → ⊥

unique_snoc : (x : Point) (xs : List Point) → Unique xs → (In x xs → ⊥) → Unique (xs ++ (x ∷ []))
unique_snoc x xs u new = record { apart = λ i j l m e. go i j l m e (dec_lt j (length xs)) }
  where
    old : (i : ℕ) → i < length xs → at (xs ++ (x ∷ [])) i ≡ at xs i
    old i l = get_or-append xs (x ∷ []) (point 0 0) i l

    go : (i j : ℕ) → i < j → j < length (xs ++ (x ∷ [])) → at (xs ++ (x ∷ [])) i ≡ at (xs ++ (x ∷ [])) j
        → Dec (j < length xs) → ⊥
    go i j l m e (yes k) = u.apart i j l k (sym (old i (omega arith)) ∙ e ∙ old j k)
    go i j l m e (no k) =
        let z : j ≡ length xs + 0 = omega (arith, length-append xs (x ∷ [])) in
        let last : at (xs ++ (x ∷ [])) j ≡ x =
        ap (at (xs ++ (x ∷ []))) z ∙ get_or-append-add xs (x ∷ []) 0 (point 0 0) in
        let lt : i < length xs = omega arith in
        new (subst (λ (y : Point). In y xs) (sym (old i lt) ∙ e ∙ last) (at_in (point 0 0) xs i lt))

-- ---- points are met

-- after the points xs are met, a list has become more
pub record Met (xs met more : List Point) : Type 0 where
  pub longer : length met ≤ length more
  pub there : (i : ℕ) → i < length met → at more i ≡ at met i
  pub has : All (λ x. In x more) xs
  pub unique : Unique met → Unique more
  pub from : (y : Point) → In y more → In y met ⊎ In y xs

pub met_keeps : {xs met more : List Point} → Met xs met more → (x : Point) → In x met → In x more
met_keeps {xs} {met} {more} m x h =
    let (i, l, q) = in_at (point 0 0) x met h in
    subst (λ (y : Point). In y more) (m.there i l ∙ q) (at_in (point 0 0) more i (omega (arith, m.longer)))

met_one : (x : Point) (met : List Point) → Met (x ∷ []) met (visit x met)
unfolding visit
met_one x met = go (member x met) refl
  where
    go : (b : Bool) → member x met ≡ b → Met (x ∷ []) met (elim b [ true ↦ met | false ↦ met ++ (x ∷ []) ])
    go true q = record {
      longer = omega arith;
      there = λ i l. refl;
      has = λ y h. elim h [
        | inl e ↦ subst (λ (z : Point). In z met) (sym e) ((member_iff x met).0 q)
        | inr n ↦ absurd n
      ];
      unique = λ u. u;
      from = λ y h. inl h;
    }
    go false q = record {
      longer = omega (arith, length-append met (x ∷ []));
      there = λ i l. get_or-append met (x ∷ []) (point 0 0) i l;
      has = λ y h. in_append y met (x ∷ []) (inr h);
      unique = λ u. unique_snoc x met u (λ h. false≢true (sym q ∙ (member_iff x met).1 h));
      from = λ y h. append_in y met (x ∷ []) h;
    }

met_on : (x : Point) {xs met more most : List Point} → Met (x ∷ []) met more → Met xs more most → Met (x ∷ xs) met most
met_on x {xs} {met} {more} {most} g h = record {
  longer = omega (arith, g.longer, h.longer);
  there = λ i l. h.there i (omega (arith, g.longer)) ∙ g.there i l;
  has = λ y m. elim m [ inl e ↦ met_keeps h y (g.has y (inl e)) | inr n ↦ h.has y n ];
  unique = λ u. h.unique (g.unique u);
  from = λ y m. later y (h.from y m);
}
  where
    first : (y : Point) → In y met ⊎ In y (x ∷ []) → In y met ⊎ In y (x ∷ xs)
    first y (inl m) = inl m
    first y (inr (inl e)) = inr (inl e)
    first y (inr (inr n)) = absurd n

    later : (y : Point) → In y more ⊎ In y xs → In y met ⊎ In y (x ∷ xs)
    later y (inl m) = first y (g.from y m)
    later y (inr m) = inr (inr m)

pub met_all : (xs met : List Point) → Met xs met (visit_all xs met)
unfolding visit_all
met_all [] met = record {
  longer = omega arith;
  there = λ i l. refl;
  has = λ y h. absurd h;
  unique = λ u. u;
  from = λ y h. inl h;
}
met_all (x ∷ xs) met = met_on x (met_one x met) (met_all xs (visit x met))

-- ---- at most as many as there are

-- positions below L and states below N
pub record Within (N L : ℕ) (x : Point) : Type 0 where
  pub position : x.position < L
  pub state : x.state < N

module _ (N L : ℕ) where
  code : Point → ℕ
  code x = x.position * N + x.state

  code_small : (x : Point) → Within N L x → code x < N * L
  unfolding code
  code_small x w =
      let h : suc x.position * N ≤ L * N = mul-le-mul_right N w.position in
      omega (arith, suc-mul x.position N, mul_comm N L, w.state)

  code_state : (x : Point) → Within N L x → code x % N ≡ x.state
  unfolding code
  code_state x w = mul-add-mod_self_right x.position N x.state ∙ mod-eq_of_lt w.state

  code_same : (x y : Point) → Within N L x → Within N L y → code x ≡ code y → x ≡ y
  unfolding code
  code_same x y v w e =
      let s : x.state ≡ y.state = sym (code_state x v) ∙ ap (λ (k : ℕ). k % N) e ∙ code_state y w in
      let p : x.position ≡ y.position =
      eq_of_mul-eq-mul_right N (omega (arith, v.state)) x.position y.position (omega arith) in
      λ i. record { position = p i; state = s i }

  pub few_points : (xs : List Point) → Unique xs → All (Within N L) xs → length xs ≤ N * L
  few_points xs u all = go (dec_lt (N * L) (length xs))
    where
      inside : (i : ℕ) → i < length xs → Within N L (at xs i)
      inside i l = all (at xs i) (at_in (point 0 0) xs i l)

      clash : N * L < length xs → (i j : ℕ) × (i < j) × (j ≤ N * L) × (code (at xs i) ≡ code (at xs j)) → ⊥
      clash l (i, j, lt, le, e) =
          let same = code_same (at xs i) (at xs j) (inside i (omega arith)) (inside j (omega arith)) e in
          u.apart i j lt (omega arith) same

      go : Dec (N * L < length xs) → length xs ≤ N * L
      go (yes l) =
          let same = pigeon (N * L) (λ i. code (at xs i)) (λ i le. code_small (at xs i) (inside i (omega arith))) in
          absurd (clash l same)
      go (no l) = omega arith
