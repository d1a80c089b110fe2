-- What is added for each item.
use Rattle.std.proofs.Common.{◌≡◌, ℕ, List, ◌++◌, refl, sym, ap, subst, ◌∙◌, append_assoc, arith}
use Rattle.std.specs.Prelude.{map, Result, OnOk}
use Rattle.vale_base.specs.declared.spot.Spot.{Spot}
use Rattle.vale_syntax.specs.declared.token.Sign.TheVariants.{OpenBrace, CloseBrace, Semicolon}
use Rattle.vale_syntax.specs.declared.token.Word.TheVariants as w
use Rattle.vale_syntax.specs.declared.tree.NameAt.{NameAt}
use Rattle.vale_syntax.specs.declared.tree.FieldDecl.{FieldDecl}
use Rattle.vale_syntax.specs.declared.tree.Head.{Head}
use Rattle.vale_syntax.specs.declared.tree.Function.{Function}
use Rattle.vale_syntax.specs.declared.tree.Item.{Item}
use Rattle.vale_syntax.specs.declared.tree.Item.TheVariants as item
use Rattle.vale_syntax.specs.Canon.{rendered}
use Rattle.vale_syntax.specs.Layout.{Layout, key, mark, gap, around, new_line, each, named, lay_head, lay_function, lay_field, lay_members, lay_block, lay_item}
use Rattle.vale_syntax.specs.View.{view_head, view_block, view_function, view_field, view_item}
use Rattle.vale_printer.proofs.EachLaws.{each_map}
use Rattle.vale_printer.proofs.StepLaws.{step, finish}

regrouped : (v g o e n c : Layout) → (v ++ g) ++ (((o ++ e) ++ n) ++ c) ≡ ((v ++ (g ++ o)) ++ e) ++ (n ++ c)
regrouped v g o e n c = grind (arith, append_assoc)

module _ (names : List (List ℕ)) where
  members_add : (v : Layout) {X Y : Type 0} (p : Y → Layout) (f : X → Y) (xs xs' : List X) (a : List ℕ) {U E : Type 0} (r : Result U E) (t1 t2 t3 c : List ℕ)
      → xs' ≡ xs
      → t1 ≡ a ++ rendered v
      → t2 ≡ t1 ++ rendered (gap ++ mark OpenBrace)
      → t3 ≡ t2 ++ rendered (each (λ x. new_line 1 ++ p (f x)) xs')
      → OnOk r (c ≡ t3 ++ rendered (new_line 0 ++ mark CloseBrace))
      → OnOk r (c ≡ a ++ rendered ((v ++ gap) ++ lay_members names p (map f xs)))
  members_add v p f xs xs' a r t1 t2 t3 c h g1 g2 g3 g4 =
      let list : Layout = each (λ x. new_line 1 ++ p (f x)) xs' in
      let listed : each (λ y. new_line 1 ++ p y) (map f xs) ≡ list = each_map (λ y. new_line 1 ++ p y) f xs ∙ ap (λ (z : List _). each (λ x. new_line 1 ++ p (f x)) z) (sym h) in
      finish ((v ++ (gap ++ mark OpenBrace)) ++ list) (new_line 0 ++ mark CloseBrace) ((v ++ gap) ++ lay_members names p (map f xs)) r a c
      (ap (λ (z : Layout). (v ++ gap) ++ (((mark OpenBrace ++ z) ++ new_line 0) ++ mark CloseBrace)) listed ∙ regrouped v gap (mark OpenBrace) list (new_line 0) (mark CloseBrace))
      (step (v ++ (gap ++ mark OpenBrace)) list a (step v (gap ++ mark OpenBrace) a g1 g2) g3) g4

  pub function_adds : (d : ℕ) (f : Function) (a : List ℕ) {U E : Type 0} (r : Result U E) (t1 t2 c : List ℕ)
      → t1 ≡ a ++ rendered (lay_head names (view_head f.head))
      → t2 ≡ t1 ++ rendered gap
      → OnOk r (c ≡ t2 ++ rendered (lay_block names d (view_block f.body)))
      → OnOk r (c ≡ a ++ rendered (lay_function names d (view_function f)))
  function_adds d f a r t1 t2 c g1 g2 g3 =
      finish (lay_head names (view_head f.head) ++ gap) (lay_block names d (view_block f.body)) (lay_function names d (view_function f)) r a c refl
      (step (lay_head names (view_head f.head)) gap a g1 g2) g3

  pub struct_adds : (x : Item) (n : NameAt) (fs fs' : List FieldDecl) (a : List ℕ) {U E : Type 0} (r : Result U E) (t1 t2 t3 t4 c : List ℕ)
      → x ≡ item.Struct n fs
      → fs' ≡ fs
      → t1 ≡ a ++ rendered (key w.Struct ++ gap)
      → t2 ≡ t1 ++ rendered (named names n)
      → t3 ≡ t2 ++ rendered (gap ++ mark OpenBrace)
      → t4 ≡ t3 ++ rendered (each (λ y. new_line 1 ++ lay_field names (view_field y)) fs')
      → OnOk r (c ≡ t4 ++ rendered (new_line 0 ++ mark CloseBrace))
      → OnOk r (c ≡ a ++ rendered (lay_item names (view_item x)))
  struct_adds x n fs fs' a r t1 t2 t3 t4 c h i g1 g2 g3 g4 g5 =
      subst (λ (z : Item). OnOk r (c ≡ a ++ rendered (lay_item names (view_item z)))) (sym h)
      (members_add ((key w.Struct ++ gap) ++ named names n) (lay_field names) view_field fs fs' a r t2 t3 t4 c i
      (step (key w.Struct ++ gap) (named names n) a g1 g2) g3 g4 g5)

  pub interface_adds : (x : Item) (n : NameAt) (hs hs' : List Head) (a : List ℕ) {U E : Type 0} (r : Result U E) (t1 t2 t3 t4 c : List ℕ)
      → x ≡ item.Interface n hs
      → hs' ≡ hs
      → t1 ≡ a ++ rendered (key w.Interface ++ gap)
      → t2 ≡ t1 ++ rendered (named names n)
      → t3 ≡ t2 ++ rendered (gap ++ mark OpenBrace)
      → t4 ≡ t3 ++ rendered (each (λ y. new_line 1 ++ (lay_head names (view_head y) ++ mark Semicolon)) hs')
      → OnOk r (c ≡ t4 ++ rendered (new_line 0 ++ mark CloseBrace))
      → OnOk r (c ≡ a ++ rendered (lay_item names (view_item x)))
  interface_adds x n hs hs' a r t1 t2 t3 t4 c h i g1 g2 g3 g4 g5 =
      subst (λ (z : Item). OnOk r (c ≡ a ++ rendered (lay_item names (view_item z)))) (sym h)
      (members_add ((key w.Interface ++ gap) ++ named names n) (λ y. lay_head names y ++ mark Semicolon) view_head hs hs' a r t2 t3 t4 c i
      (step (key w.Interface ++ gap) (named names n) a g1 g2) g3 g4 g5)

  pub impl_adds : (x : Item) (at : Spot) (m n : NameAt) (fs fs' : List Function) (a : List ℕ) {U E : Type 0} (r : Result U E) (t1 t2 t3 t4 t5 t6 t7 c : List ℕ)
      → x ≡ item.Impl at m n fs
      → fs' ≡ fs
      → t1 ≡ a ++ rendered (key w.Impl ++ gap)
      → t2 ≡ t1 ++ rendered (named names m)
      → t3 ≡ t2 ++ rendered gap
      → t4 ≡ t3 ++ rendered (key w.For ++ gap)
      → t5 ≡ t4 ++ rendered (named names n)
      → t6 ≡ t5 ++ rendered (gap ++ mark OpenBrace)
      → t7 ≡ t6 ++ rendered (each (λ y. new_line 1 ++ lay_function names 1 (view_function y)) fs')
      → OnOk r (c ≡ t7 ++ rendered (new_line 0 ++ mark CloseBrace))
      → OnOk r (c ≡ a ++ rendered (lay_item names (view_item x)))
  impl_adds x at m n fs fs' a r t1 t2 t3 t4 t5 t6 t7 c h i g1 g2 g3 g4 g5 g6 g7 g8 =
      subst (λ (z : Item). OnOk r (c ≡ a ++ rendered (lay_item names (view_item z)))) (sym h)
      (members_add ((((key w.Impl ++ gap) ++ named names m) ++ around (key w.For)) ++ named names n) (lay_function names 1) view_function fs fs' a r t5 t6 t7 c i
      (step ((((key w.Impl ++ gap) ++ named names m) ++ gap) ++ (key w.For ++ gap)) (named names n) a
      (step (((key w.Impl ++ gap) ++ named names m) ++ gap) (key w.For ++ gap) a
      (step ((key w.Impl ++ gap) ++ named names m) gap a
      (step (key w.Impl ++ gap) (named names m) a g1 g2) g3) g4) g5) g6 g7 g8)
