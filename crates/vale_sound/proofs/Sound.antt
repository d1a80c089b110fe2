-- What the phase of types accepts suits.
use Rattle.std.proofs.Common.{◌≡◌, ℕ, true, List, []}
use Rattle.std.specs.Prelude.{flat_map}
use Rattle.std.specs.List.{list_all}
use Rattle.vale_base.specs.Limits.{level_limit}
use Rattle.vale_rules_spec.specs.Declarations.{declarations}
use Rattle.vale_rules_spec.specs.DeclFaults.{declaration_faults}
use Rattle.vale_syntax.specs.Tree.{Tree, tree}
use Rattle.vale_rules_spec.specs.Typed as t
use Rattle.vale_rules_spec.specs.Typing.{in_items}
use Rattle.vale_rules_spec.specs.WellFormed.{WellFormed}
use Rattle.vale_syntax.specs.declared.decls.Decls.{Decls}
use Rattle.vale_model.specs.Parts.{functions_of}
use Rattle.vale_served_spec.specs.Served.{is_served}
use Rattle.vale_syntax.specs.Bytes.{is_byte}
use Rattle.vale_lower_facts.specs.WellTyped.{WellTyped}
use Rattle.vale_sound.proofs.Fine.{of_plain}
use Rattle.vale_sound.proofs.Functions.{items_meet, all_found}
use Rattle.vale_sound.proofs.Lexed.{tokens_lawful}
use Rattle.vale_sound.proofs.Literals.{literals_lawful}
use Rattle.vale_sound.proofs.Parts.{Finds}
use Rattle.vale_sound.proofs.Main.{no_faults, items_numbered, has_main}

pub well_formed_is_well_typed : (text : List ℕ) (source : Tree) (decls : Decls) (program : t.Typed) → list_all is_byte text ≡ true → WellFormed text source decls program → is_served program ≡ true → WellTyped program
well_formed_is_well_typed text (tree names items) decls program bytes w =
    of_plain (λ p. is_served p ≡ true → WellTyped p) (λ v. t.typed names v) (in_items names items items) program w.types
    (λ ys each cov.
    let functions = flat_map functions_of ys in
    let tokens = w.reads.tokens.list in
    let lawful = literals_lawful names items tokens w.reads.spelled (tokens_lawful bytes w.reads.cuts) in
    let finds : Finds items functions = λ n h e. all_found names items n h items ys each e in
    let m = has_main names items ys (items_numbered names level_limit items tokens [] w.reads.spelled.1) (no_faults (declaration_faults (tree names items)) (declarations items) decls w.declares) each cov in
    record {
      functions = items_meet names items functions finds items ys lawful each cov;
      main = record { is = m.is; found = m.found; takes_nothing = m.takes_nothing; gives_nothing = m.gives_nothing };
    })
