-- Lists with commas, and heads.
use Rattle.std.proofs.Common.{◌≡◌, ◌≤◌, ◌-◌, ℕ, Bool, List, [], ◌∷◌, ◌++◌, Option, length, get_or, take, drop, sym, ap, ◌∙◌, append_assoc, arith}
use Rattle.std.specs.Prelude.{map, option_map, Result, OnOk}
use Rattle.std.proofs.lemmas.List.{take_all}
use Rattle.vale_syntax.specs.declared.token.Sign.TheVariants.{Comma, OpenParen, CloseParen}
use Rattle.vale_syntax.specs.declared.token.Word.TheVariants as w
use Rattle.vale_syntax.specs.declared.tree.NameAt.{NameAt}
use Rattle.vale_syntax.specs.declared.tree.Param.{Param}
use Rattle.vale_syntax.specs.declared.tree.TypeExpr.{TypeExpr}
use Rattle.vale_syntax.specs.Canon.{rendered}
use Rattle.vale_syntax.specs.Layout.{Layout, key, mark, gap, when, optional, each, with_commas, named, lay_type, lay_param, lay_head}
use Rattle.vale_syntax.specs.Tree.{head}
use Rattle.vale_syntax.specs.View.{view_type, view_param}
use Rattle.vale_printer.proofs.EachLaws.{with_commas_map}
use Rattle.vale_printer.proofs.StepLaws.{step, finish}

-- a list's first part, and each of the others after a comma
pub commas_all : {X : Type 0} (f : X → Layout) (xs : List X) (x : X) (n : ℕ) (a t1 c : List ℕ)
    → 1 ≤ length xs
    → x ≡ get_or xs 0 x
    → t1 ≡ a ++ rendered (f x)
    → c ≡ t1 ++ rendered (each (λ y. mark Comma ++ gap ++ f y) (take n (take (length xs - 1) (drop 1 xs))))
    → length (take (length xs - 1) (drop 1 xs)) ≤ n
    → c ≡ a ++ rendered (with_commas f xs)
commas_all f [] x n a t1 c h1 h2 g1 g2 k = absurd (omega arith)
commas_all f (y ∷ ys) x n a t1 c h1 h2 g1 g2 k =
    let e : take (length (y ∷ ys) - 1) (drop 1 (y ∷ ys)) ≡ ys = take_all (length (y ∷ ys) - 1) ys (omega arith) in
    let whole : take n (take (length (y ∷ ys) - 1) (drop 1 (y ∷ ys))) ≡ ys = take_all n (take (length (y ∷ ys) - 1) (drop 1 (y ∷ ys))) k ∙ e in
    let rest : Layout = each (λ z. mark Comma ++ gap ++ f z) (take n (take (length (y ∷ ys) - 1) (drop 1 (y ∷ ys)))) in
    let same : f x ++ rest ≡ with_commas f (y ∷ ys) = ap (λ z. f z ++ rest) h2 ∙ ap (λ (z : List _). f y ++ each (λ v. mark Comma ++ gap ++ f v) z) whole in
    step (f x) rest a g1 g2 ∙ ap (λ (z : Layout). a ++ rendered z) same

pub head_adds : (names : List (List ℕ)) (p : Bool) (n : NameAt) (ps ps' : List Param) (o : Option TypeExpr) (a : List ℕ) {U E : Type 0} (r : Result U E) (t1 t2 t3 t4 t5 t6 c : List ℕ)
    → ps' ≡ ps
    → t1 ≡ a ++ rendered (when p (key w.Pure ++ gap))
    → t2 ≡ t1 ++ rendered (key w.Func ++ gap)
    → t3 ≡ t2 ++ rendered (named names n)
    → t4 ≡ t3 ++ rendered (mark OpenParen)
    → t5 ≡ t4 ++ rendered (with_commas (λ x. lay_param names (view_param x)) ps')
    → t6 ≡ t5 ++ rendered (mark CloseParen)
    → OnOk r (c ≡ t6 ++ rendered (optional (λ x. gap ++ lay_type names x) (option_map view_type o)))
    → OnOk r (c ≡ a ++ rendered (lay_head names (head p n (map view_param ps) (option_map view_type o))))
head_adds names p n ps ps' o a r t1 t2 t3 t4 t5 t6 c h g1 g2 g3 g4 g5 g6 g7 =
    let front : Layout = when p (key w.Pure ++ gap) in
    let func : Layout = key w.Func ++ gap in
    let list : Layout = with_commas (λ x. lay_param names (view_param x)) ps' in
    let end : Layout = optional (λ x. gap ++ lay_type names x) (option_map view_type o) in
    finish (((((front ++ func) ++ named names n) ++ mark OpenParen) ++ list) ++ mark CloseParen) end
    (lay_head names (head p n (map view_param ps) (option_map view_type o))) r a c
    (ap (λ (z : Layout). ((((z ++ named names n) ++ mark OpenParen) ++ with_commas (lay_param names) (map view_param ps)) ++ mark CloseParen) ++ end) (append_assoc front (key w.Func) gap)
    ∙ ap (λ (z : Layout). (((((front ++ func) ++ named names n) ++ mark OpenParen) ++ z) ++ mark CloseParen) ++ end) (with_commas_map (lay_param names) view_param ps ∙ ap (λ (z : List Param). with_commas (λ x. lay_param names (view_param x)) z) (sym h)))
    (step ((((front ++ func) ++ named names n) ++ mark OpenParen) ++ list) (mark CloseParen) a
    (step (((front ++ func) ++ named names n) ++ mark OpenParen) list a
    (step ((front ++ func) ++ named names n) (mark OpenParen) a
    (step (front ++ func) (named names n) a
    (step front func a g1 g2) g3) g4) g5) g6) g7
