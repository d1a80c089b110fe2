-- A set of names that grows along edges, with those of them that are still to be looked at.
use Rattle.std.proofs.Common.{◌≡◌, ℕ, ◌+◌, ◌<◌, ◌≤◌, List, [], ◌∷◌, ◌++◌, length, inl, inr, refl, sym, ap, ◌∙◌, arith, length-append}
use Rattle.std.specs.Prelude.{Bool, true, false, ◌||◌, ◌==◌, if◌then◌else◌}
use Rattle.std.proofs.lemmas.Bool.{or_cases, eqb-true, eq-eqb}
use Rattle.std.proofs.lemmas.List.Folds.{list_any-append}
use Rattle.vale_rules_spec.specs.Reach.{Edge}
use Rattle.vale_names.specs.declared.spread.Spread.{Spread}
use Rattle.vale_names.specs.Names.{has}
use Rattle.vale_names.specs.Isos.{is_in, is_edge, missing, Within, IsClosed, IsLeast}
use Rattle.vale_names.specs.Spread.{finds, awaits, work, Spreads}
use Rattle.vale_names.proofs.TestLaws.{or_here, or_there, or_none, or_or, same_tests}

moved : (test : ℕ → Bool) (m n : ℕ) (b : Bool) → m ≡ n → test m ≡ b → test n ≡ b
moved test m n b e h = cc

-- ---- how many are missing

fewer : (a b : Bool) (m n : ℕ) → (a ≡ true → b ≡ true) → n ≤ m → (if b then 0 else 1) + n ≤ (if a then 0 else 1) + m
fewer true true m n f l = omega arith
fewer true false m n f l = let no : false ≡ true = f refl in cc
fewer false true m n f l = omega arith
fewer false false m n f l = omega arith

fewer_here : (a b : Bool) (m n : ℕ) → a ≡ false → b ≡ true → n ≤ m → (if b then 0 else 1) + n < (if a then 0 else 1) + m
fewer_here false true m n e f l = omega arith
fewer_here true b m n e f l = cc
fewer_here false false m n e f l = cc

fewer_later : (a b : Bool) (m n : ℕ) → (a ≡ true → b ≡ true) → n < m → (if b then 0 else 1) + n < (if a then 0 else 1) + m
fewer_later true true m n f l = omega arith
fewer_later true false m n f l = let no : false ≡ true = f refl in cc
fewer_later false true m n f l = omega arith
fewer_later false false m n f l = omega arith

missing_within : (has more : ℕ → Bool) → Within has more → (ms : List ℕ) → missing more ms ≤ missing has ms
missing_within has more w [] = omega arith
missing_within has more w (m ∷ ms) = fewer (has m) (more m) (missing has ms) (missing more ms) (w m) (missing_within has more w ms)

missing_falls : (has more : ℕ → Bool) → Within has more → (n : ℕ) → has n ≡ false → more n ≡ true → (ms : List ℕ) → is_in ms n ≡ true → missing more ms < missing has ms
missing_falls has more w n e f [] i = cc
missing_falls has more w n e f (m ∷ ms) i = elim (or_cases (m == n) (is_in ms n) i) [
  | inl h ↦ let same : n ≡ m = sym (eqb-true m n h) in fewer_here (has m) (more m) (missing has ms) (missing more ms) (moved has n m false same e) (moved more n m true same f) (missing_within has more w ms)
  | inr h ↦ fewer_later (has m) (more m) (missing has ms) (missing more ms) (w m) (missing_falls has more w n e f ms h)
]

-- ---- a name is added

same_eq : (m n : ℕ) → (m == n) ≡ (n == m)
same_eq m n = same_tests (m == n) (n == m) (λ e. eq-eqb n m (sym (eqb-true m n e))) (λ e. eq-eqb m n (sym (eqb-true n m e)))

or_swapped : (a b c : Bool) → a ≡ c → (a || b) ≡ (b || (c || false))
or_swapped true true c e = refl
or_swapped true false c e = e ∙ sym (or_none c)
or_swapped false true c e = refl
or_swapped false false c e = e ∙ sym (or_none c)

in_one : (n name : ℕ) (b : Bool) → ((n == name) || b) ≡ (b || is_in (name ∷ []) n)
in_one n name b = or_swapped (n == name) b (name == n) (same_eq n name)

in_itself : (name : ℕ) → is_in (name ∷ []) name ≡ true
in_itself name = or_here (name == name) false (eq-eqb name name refl)

in_last : (ms : List ℕ) (name n : ℕ) → (is_in ms n || is_in (name ∷ []) n) ≡ true → is_in (ms ++ name ∷ []) n ≡ true
in_last ms name n e = list_any-append (λ m. m == n) ms (name ∷ []) ∙ e

more_last : (ms ns : List ℕ) (name : ℕ) → ns ≡ ms ++ name ∷ [] → Within (is_in ms) (is_in ns)
more_last ms ns name e n i = ap (λ xs. is_in xs n) e ∙ in_last ms name n (or_here (is_in ms n) (is_in (name ∷ []) n) i)

here_last : (ms ns : List ℕ) (name n : ℕ) → ns ≡ ms ++ name ∷ [] → is_in (name ∷ []) n ≡ true → is_in ns n ≡ true
here_last ms ns name n e i = ap (λ xs. is_in xs n) e ∙ in_last ms name n (or_there (is_in ms n) (is_in (name ∷ []) n) i)

last_cases : (ms ns : List ℕ) (name n : ℕ) → ns ≡ ms ++ name ∷ [] → is_in ns n ≡ true → (is_in ms n || is_in (name ∷ []) n) ≡ true
last_cases ms ns name n e i = sym (list_any-append (λ m. m == n) ms (name ∷ [])) ∙ (sym (ap (λ xs. is_in xs n) e) ∙ i)

one_longer : (ms ns : List ℕ) (name : ℕ) → ns ≡ ms ++ name ∷ [] → length ns ≡ length ms + 1
one_longer ms ns name e = omega (arith, ap (λ xs. length xs) e, length-append ms (name ∷ []))

new_awaits : (was is_new waits : Bool) → (was || is_new) ≡ true → (is_new ≡ true → waits ≡ true) → (was || waits) ≡ true
new_awaits true is_new waits e f = refl
new_awaits false is_new waits e f = f e

-- a new name, which goes to the end of those still to be looked at
pub adds_new : (old new : Spread) (name : ℕ) → has old.found name ≡ false → ((n : ℕ) → has new.found n ≡ (n == name || has old.found n)) → new.todo.items ≡ old.todo.items ++ name ∷ [] → Spreads (name ∷ []) old new
adds_new old new name out ins last =
    let found : (n : ℕ) → finds new n ≡ (finds old n || is_in (name ∷ []) n) = λ n. ins n ∙ in_one n name (finds old n) in
    let within : Within (finds old) (finds new) = λ n e. found n ∙ or_here (finds old n) (is_in (name ∷ []) n) e in
    let is_there : finds new name ≡ true = found name ∙ or_there (finds old name) (is_in (name ∷ []) name) (in_itself name) in
    record {
      found = found;
      awaited = λ n e. new_awaits (finds old n) (is_in (name ∷ []) n) (awaits new n) (sym (found n) ∙ e) (here_last old.todo.items new.todo.items name n last);
      more = more_last old.todo.items new.todo.items name last;
      known = λ known n e. elim (or_cases (is_in old.todo.items n) (is_in (name ∷ []) n) (last_cases old.todo.items new.todo.items name n last e)) [
        | inl h ↦ within n (known n h)
        | inr h ↦ found n ∙ or_there (finds old n) (is_in (name ∷ []) n) h
      ];
      falls = λ sources w.
          let less : missing (has new.found) sources < missing (has old.found) sources = missing_falls (finds old) (finds new) within name out is_there sources (w name (in_itself name)) in
          let longer : length new.todo.items ≡ length old.todo.items + 1 = one_longer old.todo.items new.todo.items name last in
          omega arith;
    }

known_name : (has : ℕ → Bool) (name n : ℕ) → has name ≡ true → is_in (name ∷ []) n ≡ true → has n ≡ true
known_name has name n e i = moved has name n true (eqb-true name n (sym (or_none (name == n)) ∙ i)) e

or_known : (was is_new : Bool) → (is_new ≡ true → was ≡ true) → (was || is_new) ≡ true → was ≡ true
or_known true is_new f e = refl
or_known false is_new f e = f e

same_length : (ms ns : List ℕ) → ns ≡ ms → length ns ≡ length ms
same_length ms ns e = ap (λ xs. length xs) e

-- a name that is there already
pub adds_known : (old new : Spread) (name : ℕ) → has old.found name ≡ true → ((n : ℕ) → has new.found n ≡ (n == name || has old.found n)) → new.todo.items ≡ old.todo.items → Spreads (name ∷ []) old new
adds_known old new name there ins same =
    let found : (n : ℕ) → finds new n ≡ (finds old n || is_in (name ∷ []) n) = λ n. ins n ∙ in_one n name (finds old n) in
    let within : Within (finds old) (finds new) = λ n e. found n ∙ or_here (finds old n) (is_in (name ∷ []) n) e in
    record {
      found = found;
      awaited = λ n e. or_here (finds old n) (awaits new n) (or_known (finds old n) (is_in (name ∷ []) n) (known_name (finds old) name n there) (sym (found n) ∙ e));
      more = λ n e. ap (λ xs. is_in xs n) same ∙ e;
      known = λ known n e. within n (known n (sym (ap (λ xs. is_in xs n) same) ∙ e));
      falls = λ sources w.
          let less : missing (has new.found) sources ≤ missing (has old.found) sources = missing_within (finds old) (finds new) within sources in
          let longer : length new.todo.items ≡ length old.todo.items = same_length old.todo.items new.todo.items same in
          omega arith;
    }

-- ---- names are added in turn

pub adds_none : (spread : Spread) → Spreads [] spread spread
adds_none spread = record {
  found = λ n. sym (or_none (finds spread n));
  awaited = λ n e. or_here (finds spread n) (awaits spread n) e;
  more = λ n e. e;
  known = λ known. known;
  falls = λ sources w. omega arith;
}

in_left : (ms ns : List ℕ) → Within (is_in ms) (is_in (ms ++ ns))
in_left ms ns n e = list_any-append (λ m. m == n) ms ns ∙ or_here (is_in ms n) (is_in ns n) e

in_right : (ms ns : List ℕ) → Within (is_in ns) (is_in (ms ++ ns))
in_right ms ns n e = list_any-append (λ m. m == n) ms ns ∙ or_there (is_in ms n) (is_in ns n) e

pub adds_both : (ms ns : List ℕ) (a b c : Spread) → Spreads ms a b → Spreads ns b c → Spreads (ms ++ ns) a c
adds_both ms ns a b c ab bc = record {
  found = λ n. bc.found n ∙ (ap (λ x. x || is_in ns n) (ab.found n) ∙ (or_or (finds a n) (is_in ms n) (is_in ns n) ∙ ap (λ x. finds a n || x) (sym (list_any-append (λ m. m == n) ms ns))));
  awaited = λ n e. elim (or_cases (finds b n) (awaits c n) (bc.awaited n e)) [
    | inl h ↦ elim (or_cases (finds a n) (awaits b n) (ab.awaited n h)) [
      | inl f ↦ or_here (finds a n) (awaits c n) f
      | inr f ↦ or_there (finds a n) (awaits c n) (bc.more n f)
    ]
    | inr h ↦ or_there (finds a n) (awaits c n) h
  ];
  more = λ n e. bc.more n (ab.more n e);
  known = λ known. bc.known (ab.known known);
  falls = λ sources w.
      let first : work b sources ≤ work a sources = ab.falls sources (λ n e. w n (in_left ms ns n e)) in
      let second : work c sources ≤ work b sources = bc.falls sources (λ n e. w n (in_right ms ns n e)) in
      omega arith;
}

-- ---- along edges

-- what is found is in each closed set with the first names, and is closed but for the names still to be looked at
pub record IsSpreading (edges : List Edge) (ms : List ℕ) (spread : Spread) : Type 0 where
  pub begins : Within (is_in ms) (finds spread)
  pub least : (more : ℕ → Bool) → IsClosed edges more → Within (is_in ms) more → Within (finds spread) more
  pub known : Within (awaits spread) (finds spread)
  pub closed : (m : ℕ) → (n : ℕ) → is_edge edges m n ≡ true → finds spread n ≡ true → (finds spread m || awaits spread n) ≡ true

pub all_await : (names : List ℕ) (old new : Spread) → ((n : ℕ) → awaits old n ≡ finds old n) → Spreads names old new → (n : ℕ) → awaits new n ≡ finds new n
all_await names old new same adds n = same_tests (awaits new n) (finds new n)
    (adds.known (λ k e. sym (same k) ∙ e) n)
    (λ e. elim (or_cases (finds old n) (awaits new n) (adds.awaited n e)) [
      | inl h ↦ adds.more n (same n ∙ h)
      | inr h ↦ h
    ])

pub begins_with : (edges : List Edge) (ms : List ℕ) (spread : Spread) → ((n : ℕ) → finds spread n ≡ is_in ms n) → ((n : ℕ) → awaits spread n ≡ finds spread n) → IsSpreading edges ms spread
begins_with edges ms spread same waits = record {
  begins = λ n e. same n ∙ e;
  least = λ more c w n e. w n (sym (same n) ∙ e);
  known = λ n e. sym (waits n) ∙ e;
  closed = λ m n l e. or_there (finds spread m) (awaits spread n) (waits n ∙ e);
}

-- the last name is taken, and the names that lead to it are added
pub record IsTaken (name : ℕ) (old new : Spread) : Type 0 where
  pub found : new.found ≡ old.found
  pub todo : old.todo.items ≡ new.todo.items ++ name ∷ []

pub finds_same : (old new : Spread) (n : ℕ) → new.found ≡ old.found → finds new n ≡ finds old n
finds_same old new n e = ap (λ names. has names n) e

is_that : (m n : ℕ) → is_in (m ∷ []) n ≡ true → is_in (n ∷ []) m ≡ true
is_that m n e = or_here (n == m) false (sym (same_eq m n) ∙ (sym (or_none (m == n)) ∙ e))

pub goes_on : (edges : List Edge) (ms ns : List ℕ) (name : ℕ) (a b c : Spread) → IsSpreading edges ms a → IsTaken name a b → ((m : ℕ) → is_in ns m ≡ is_edge edges m name) → Spreads ns b c → IsSpreading edges ms c
goes_on edges ms ns name a b c so_far taken leading adds =
    let grown : Within (finds a) (finds c) = λ n e. adds.found n ∙ or_here (finds b n) (is_in ns n) (finds_same a b n taken.found ∙ e) in
    let is_known : Within (awaits b) (finds b) = λ n e. finds_same a b n taken.found ∙ so_far.known n (more_last b.todo.items a.todo.items name taken.todo n e) in
    let name_known : finds a name ≡ true = so_far.known name (here_last b.todo.items a.todo.items name name taken.todo (in_itself name)) in
    record {
      begins = λ n e. grown n (so_far.begins n e);
      least = λ more closed w n e. elim (or_cases (finds b n) (is_in ns n) (sym (adds.found n) ∙ e)) [
        | inl h ↦ so_far.least more closed w n (sym (finds_same a b n taken.found) ∙ h)
        | inr h ↦ closed n name (sym (leading n) ∙ h) (so_far.least more closed w name name_known)
      ];
      known = adds.known is_known;
      closed = λ m n l e. elim (or_cases (finds b n) (awaits c n) (adds.awaited n e)) [
        | inl h ↦ elim (or_cases (finds a m) (awaits a n) (so_far.closed m n l (sym (finds_same a b n taken.found) ∙ h))) [
          | inl f ↦ or_here (finds c m) (awaits c n) (grown m f)
          | inr f ↦ elim (or_cases (awaits b n) (is_in (name ∷ []) n) (last_cases b.todo.items a.todo.items name n taken.todo f)) [
            | inl g ↦ or_there (finds c m) (awaits c n) (adds.more n g)
            | inr g ↦ or_here (finds c m) (awaits c n) (adds.found m ∙ or_there (finds b m) (is_in ns m) (leading m ∙ known_name (λ k. is_edge edges m k) n name l (is_that name n g)))
          ]
        ]
        | inr h ↦ or_there (finds c m) (awaits c n) h
      ];
    }

pub less_work : (ns sources : List ℕ) (name : ℕ) (a b c : Spread) → IsTaken name a b → Within (is_in ns) (is_in sources) → Spreads ns b c → work c sources < work a sources
less_work ns sources name a b c taken w adds =
    let falls : work c sources ≤ work b sources = adds.falls sources w in
    let longer : length a.todo.items ≡ length b.todo.items + 1 = one_longer b.todo.items a.todo.items name taken.todo in
    let same : missing (has b.found) sources ≡ missing (has a.found) sources = ap (λ names. missing (has names) sources) taken.found in
    omega arith

none_in : (ms : List ℕ) (n : ℕ) → length ms ≡ 0 → is_in ms n ≡ false
none_in [] n e = refl
none_in (m ∷ ms) n e = absurd (omega arith)

only_left : (a b : Bool) → (a || b) ≡ true → b ≡ false → a ≡ true
only_left true b e f = refl
only_left false b e f = cc

pub ends : (edges : List Edge) (ms : List ℕ) (spread : Spread) (has : ℕ → Bool) → IsSpreading edges ms spread → length spread.todo.items ≡ 0 → ((n : ℕ) → has n ≡ finds spread n) → IsLeast edges ms has
ends edges ms spread has so_far none same = record {
  closed = λ m n l e. same m ∙ only_left (finds spread m) (awaits spread n) (so_far.closed m n l (sym (same n) ∙ e)) (none_in spread.todo.items n none);
  begins = λ n e. same n ∙ so_far.begins n e;
  least = λ more closed w n e. so_far.least more closed w n (sym (same n) ∙ e);
}
