-- A node whose first parts have no fault.
use Rattle.std.proofs.Common.{◌≡◌, refl, sym, ◌∙◌}
use Rattle.std.specs.Prelude.{Result, Ok, Err}
use Rattle.vale_base.specs.declared.spot.Spot.{Spot}
use Rattle.vale_base.specs.declared.fault.Fail.{Fail}
use Rattle.vale_base.specs.declared.fault.Fail.TheVariants.{Memory, Is}
use Rattle.vale_syntax.specs.declared.fault.Fault.{Fault}
use Rattle.vale_rules_spec.specs.Judged.{Judged, Rules, broken, first, both, scoped, plain, node, leaf, Gives}
use Rattle.vale_rules_spec.proofs.JudgedLaws.{◌>>=◌, meets, first_leaf, first_node, first_both}
use Rattle.vale_typed_parts.proofs.LoopLaws.{after_passes}

second : {A B C : Type 0} (r : Result B Fault) (a : A) (f : A × B → Result C Fault) → ((r >>= λ b. Ok (a, b)) >>= f) ≡ (r >>= λ b. f (a, b))
second (Ok b) a f = refl
second (Err e) a f = refl

third : {A B C D : Type 0} (r : Result C Fault) (a : A) (b : B) (f : A × (B × C) → Result D Fault) → (((r >>= λ x. Ok (b, x)) >>= λ y. Ok (a, y)) >>= f) ≡ (r >>= λ x. f (a, (b, x)))
third (Ok x) a b f = refl
third (Err e) a b f = refl

module _ {A B C : Type 0} (at : Spot) (rules : A × B → Rules) (make : A × B → C) (j : Judged A) (k : Judged B) (a : A) where
  pub second_left : first j ≡ Ok a → first (node at rules make (both j k)) ≡ (first k >>= λ b. meets at (broken (rules (a, b))) (make (a, b)))
  second_left e = first_node at rules make (both j k) ∙ (rw (first_both j k, e) (second (first k) a (λ v. meets at (broken (rules v)) (make v))))

  -- the second part has a fault
  pub second_fails : {X Y : Type 0} (view : X → C) (seen : Y → B) (fail : Fail Fault) → first j ≡ Ok a → Gives seen (Err fail) (first k) → Gives view (Err fail) (first (node at rules make (both j k)))
  second_fails view seen Memory e h = tt {0}
  second_fails view seen (Is f) e h = second_left e ∙ (rw h refl)

  -- no part has one
  pub second_ends : (b : B) → first j ≡ Ok a → first k ≡ Ok b → first (node at rules make (both j k)) ≡ first (leaf at (rules (a, b)) (make (a, b)))
  second_ends b e h = second_left e ∙ (rw h (sym (first_leaf at (rules (a, b)) (make (a, b)))))

module _ {A B C : Type 0} (make : A × B → C) (j : Judged A) (k : A → Judged B) (a : A) where
  -- the part that depends on the first has a fault
  pub after_fails : {X Y : Type 0} (view : X → C) (seen : Y → B) (fail : Fail Fault) → first j ≡ Ok a → Gives seen (Err fail) (first (k a)) → Gives view (Err fail) (first (plain make (scoped j k)))
  after_fails view seen Memory e h = tt {0}
  after_fails view seen (Is f) e h = after_passes make j a k e ∙ (rw h refl)

module _ {A B C D : Type 0} (at : Spot) (rules : A × (B × C) → Rules) (make : A × (B × C) → D) (j : Judged A) (k : Judged B) (l : Judged C) (a : A) (b : B) where
  pub third_left : first j ≡ Ok a → first k ≡ Ok b → first (node at rules make (both j (both k l))) ≡ (first l >>= λ x. meets at (broken (rules (a, (b, x)))) (make (a, (b, x))))
  third_left p q = first_node at rules make (both j (both k l)) ∙ (rw (first_both j (both k l), first_both k l, p, q) (third (first l) a b (λ v. meets at (broken (rules v)) (make v))))

fourth : {A B C D E : Type 0} (r : Result D Fault) (a : A) (b : B) (x : C) (f : A × (B × (C × D)) → Result E Fault) → ((((r >>= λ y. Ok (x, y)) >>= λ z. Ok (b, z)) >>= λ z. Ok (a, z)) >>= f) ≡ (r >>= λ y. f (a, (b, (x, y))))
fourth (Ok y) a b x f = refl
fourth (Err e) a b x f = refl

module _ {A B C D E : Type 0} (at : Spot) (rules : A × (B × (C × D)) → Rules) (make : A × (B × (C × D)) → E) (j : Judged A) (k : Judged B) (l : Judged C) (m : Judged D) (a : A) (b : B) (x : C) where
  fourth_left : first j ≡ Ok a → first k ≡ Ok b → first l ≡ Ok x → first (node at rules make (both j (both k (both l m)))) ≡ (first m >>= λ y. meets at (broken (rules (a, (b, (x, y))))) (make (a, (b, (x, y)))))
  fourth_left p q r = first_node at rules make (both j (both k (both l m))) ∙ (rw (first_both j (both k (both l m)), first_both k (both l m), first_both l m, p, q, r) (fourth (first m) a b x (λ v. meets at (broken (rules v)) (make v))))

  -- the fourth part has a fault
  pub fourth_fails : {X Y : Type 0} (view : X → E) (seen : Y → D) (fail : Fail Fault) → first j ≡ Ok a → first k ≡ Ok b → first l ≡ Ok x → Gives seen (Err fail) (first m) → Gives view (Err fail) (first (node at rules make (both j (both k (both l m)))))
  fourth_fails view seen Memory p q r h = tt {0}
  fourth_fails view seen (Is f) p q r h = fourth_left p q r ∙ (rw h refl)

  -- no part has one
  pub fourth_ends : (y : D) → first j ≡ Ok a → first k ≡ Ok b → first l ≡ Ok x → first m ≡ Ok y → first (node at rules make (both j (both k (both l m)))) ≡ first (leaf at (rules (a, (b, (x, y)))) (make (a, (b, (x, y)))))
  fourth_ends y p q r h = fourth_left p q r ∙ (rw h (sym (first_leaf at (rules (a, (b, (x, y)))) (make (a, (b, (x, y)))))))
