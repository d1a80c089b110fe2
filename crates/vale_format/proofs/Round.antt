-- The canonical text of a tree is read back as the same tree.
use Rattle.std.proofs.Common.{◌≡◌, ℕ, List, [], sym, subst, ◌∙◌}
use Rattle.vale_syntax.specs.Canon.{canon}
use Rattle.vale_syntax.specs.Cut.{cut, start}
use Rattle.vale_syntax.specs.Grammar.{spells}
use Rattle.vale_syntax.specs.Layout.{lay_tree}
use Rattle.vale_syntax.specs.Moved.{kinds, nowhere, moved_tokens, moved_tree, bare_tree, IsSameTree}
use Rattle.vale_syntax.specs.Round.{IsReadBack}
use Rattle.vale_syntax.specs.Tree.{Tree, tree}
use Rattle.vale_syntax.specs.declared.token.Token.{Token}
use Rattle.vale_syntax.specs.declared.token.Tokens.{Tokens}
use Rattle.vale_lexer.proofs.OneCut.{one_tokens}
use Rattle.vale_reading_laws.proofs.ItemAgain.{one_tree}
use Rattle.vale_printer.proofs.Lays.{laid}
use Rattle.vale_printer.proofs.Moves.{spells_moved}
use Rattle.vale_printer.proofs.Neat.{tree_apart}
use Rattle.vale_printer.proofs.Numbered.{numbered}
use Rattle.vale_printer.proofs.Same.{items_lay}
use Rattle.vale_printer.proofs.SameLayout.{canon_moved}
use Rattle.vale_format.proofs.Rendered.{AllMeant, cut_meant, Renders, renders}
use Rattle.vale_format.proofs.Spots.{InOrder, cut_in_order, spot_for, moved_is, bare_is}

-- the layout of a tree has the tokens that spell it
laid_tree : (t : Tree) (ts : List Token) → spells t ts → laid (lay_tree t) [] ≡ kinds ts
laid_tree (tree names items) ts h = (items_lay names (numbered names) items).by ts [] h.1

-- tokens of the same kinds spell one tree but for spots
pub one_but_for_spots : (t u : Tree) (ts us : List Token) → spells t ts → spells u us → kinds us ≡ kinds ts → IsSameTree u t
one_but_for_spots t u ts us h g e =
    let bare : spells (bare_tree u) (moved_tokens (λ at. nowhere) ts) = subst (λ (z : List Token). spells (bare_tree u) z) (bare_is nowhere ts us e) (spells_moved (λ at. nowhere) u us g) in
    one_tree (moved_tokens (λ at. nowhere) ts) (bare_tree u) (bare_tree t) bare (spells_moved (λ at. nowhere) t ts h)

-- tokens of the same kinds as those of a text spell a tree, with its spots moved
respelled : (t : Tree) (ts us : List Token) → spells t ts → InOrder ts → kinds us ≡ kinds ts → spells (moved_tree (spot_for ts us) t) us
respelled t ts us h order e = subst (λ (z : List Token). spells (moved_tree (spot_for ts us) t) z) (moved_is ts us order e) (spells_moved (spot_for ts us) t ts h)

read_back_by : (t : Tree) (ts : List Token) → spells t ts → InOrder ts → (r : Renders start (canon t) (laid (lay_tree t) [])) → IsReadBack t
read_back_by t ts h order r =
    let tokens : Tokens = record { list = r.tokens; end = r.end } in
    let e : kinds r.tokens ≡ kinds ts = r.same ∙ laid_tree t ts h in
    let again : Tree = moved_tree (spot_for ts r.tokens) t in
    let spelled : spells again r.tokens = respelled t ts r.tokens h order e in
    record {
      tokens = tokens;
      tree = again;
      cuts = r.cuts;
      spelled = spelled;
      same = one_but_for_spots t again ts r.tokens h spelled e;
      only = λ u x c g.
          let one : u ≡ tokens = one_tokens (canon t) u tokens c r.cuts in
          (one, one_tree r.tokens x again (subst (λ (z : Tokens). spells x z.list) one g) spelled);
      fixed = canon_moved (spot_for ts r.tokens) t;
    }

-- the canonical text of each tree that the tokens of a text spell is read back
pub read_back : (text : List ℕ) (tokens : Tokens) (t : Tree) → cut text tokens → spells t tokens.list → IsReadBack t
read_back text tokens t c h =
    let meant : AllMeant (laid (lay_tree t) []) = subst AllMeant (sym (laid_tree t tokens.list h)) (cut_meant c) in
    read_back_by t tokens.list h (cut_in_order c) (renders (lay_tree t) (tree_apart t) meant start)
