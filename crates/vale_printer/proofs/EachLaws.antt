-- A list's parts, one more at a time.
use Rattle.std.proofs.Common.{◌≡◌, ◌+◌, ◌<◌, ℕ, List, [], ◌∷◌, ◌++◌, length, get_or, take, refl, sym, ap, ◌∙◌, append-nil}
use Rattle.std.specs.Prelude.{map}
use Rattle.std.proofs.lemmas.List.{take_more}
use Rattle.std.proofs.lemmas.Grind.{flat_map-append}
use Rattle.vale_syntax.specs.Canon.{rendered, piece_text}
use Rattle.vale_syntax.specs.Layout.{Layout, each, with_commas, mark, gap}
use Rattle.vale_syntax.specs.declared.token.Sign.TheVariants.{Comma}

pub each_more : {X : Type 0} (f : X → Layout) (xs : List X) (i : ℕ) (x : X) → x ≡ get_or xs i x → i < length xs → rendered (each f (take (i + 1) xs)) ≡ rendered (each f (take i xs)) ++ rendered (f x)
each_more f xs i x e h =
    rw (take_more xs i x h, sym e)
    (ap rendered (flat_map-append f (take i xs) (x ∷ []))
    ∙ flat_map-append piece_text (each f (take i xs)) (f x ++ [])
    ∙ ap (λ (z : Layout). rendered (each f (take i xs)) ++ rendered z) (append-nil (f x)))

pub each_map : {X Y : Type 0} (p : Y → Layout) (f : X → Y) (xs : List X) → each p (map f xs) ≡ each (λ x. p (f x)) xs
each_map p f [] = refl
each_map p f (x ∷ xs) = ap (λ (z : Layout). p (f x) ++ z) (each_map p f xs)

pub with_commas_map : {X Y : Type 0} (p : Y → Layout) (f : X → Y) (xs : List X) → with_commas p (map f xs) ≡ with_commas (λ x. p (f x)) xs
with_commas_map p f [] = refl
with_commas_map p f (x ∷ xs) = ap (λ (z : Layout). p (f x) ++ z) (each_map (λ y. mark Comma ++ gap ++ p y) f xs)
