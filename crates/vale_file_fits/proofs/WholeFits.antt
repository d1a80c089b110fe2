-- A code with its facts that lies in the tables has a spelling.
use Rattle.std.proofs.Common.{◌≡◌, ℕ, ◌<◌, ◌≤◌, true, List, [], ◌∷◌, length, map, None, refl, sym, ap, ap₂, arith}
use Rattle.std.proofs.lemmas.Bool.{and_parts}
use Rattle.std.specs.List.{AllByRecursion, list_all}
use Rattle.vale_cert.specs.Shape.{shape_fault}
use Rattle.vale_cert.specs.Small.{facts_are_small, is_small}
use Rattle.vale_cert.specs.declared.facts.FuncFacts.{FuncFacts}
use Rattle.vale_code.specs.Parts.{Parts}
use Rattle.vale_code.specs.Sizes.{is_few, parts_limit, text_is_small, kind_is_small, impl_is_small, func_is_small, instructions, IsSmall}
use Rattle.vale_code.specs.declared.func.Func.{Func}
use Rattle.vale_codec.specs.Numbers.{largest_word, text}
use Rattle.vale_file_fits.specs.Fits.{KindIsFit, ImplIsFit, FuncIsFit}
use Rattle.vale_file_fits.specs.Tables.{DestructorFits, FuncFits, InTables}
use Rattle.vale_file_fits.proofs.ListFits.{list_fits, apply_all, apply_both}
use Rattle.vale_file_fits.proofs.PartFits.{few}
use Rattle.vale_file_fits.proofs.ShapeFits.{shaped_fits}
use Rattle.vale_file_spec.specs.File.{kind_info, impl_info, func, funcs, texts, kind_infos, impl_infos, beside, content, front}

text_fits : (bytes : List ℕ) → text_is_small bytes ≡ true → text.Fits bytes
text_fits bytes small = ((length bytes, bytes), refl, (few (length bytes) small, refl))

texts_each : (xs : List (List ℕ)) → list_all text_is_small xs ≡ true → AllByRecursion text.Fits xs
texts_each [] h = tt
texts_each (x ∷ xs) h = let a = and_parts (text_is_small x) (list_all text_is_small xs) h in (text_fits x a.0, texts_each xs a.1)

funcs_each : (fs : List Func) (facts : List FuncFacts) → list_all func_is_small fs ≡ true → instructions fs < parts_limit → list_all facts_are_small facts ≡ true
    → AllByRecursion FuncFits (beside fs facts) → AllByRecursion FuncIsFit (beside fs facts) → AllByRecursion func.Fits (beside fs facts)
funcs_each [] facts a b c h each = tt
funcs_each (f ∷ fs) [] a b c h each = tt
funcs_each (f ∷ fs) (known ∷ facts) a b c h each =
    let p = and_parts (func_is_small f) (list_all func_is_small fs) a in
    let q = and_parts (facts_are_small known) (list_all facts_are_small facts) c in
    let short : length f.body ≤ largest_word = omega arith in
    let rest : instructions fs < parts_limit = omega arith in
    (each.0 p.0 short q.0 h.0, funcs_each fs facts p.1 rest q.1 h.1 each.1)

beside_funcs : (fs : List Func) (facts : List FuncFacts) → length facts ≡ length fs → map (λ f. f.0) (beside fs facts) ≡ fs
beside_funcs [] facts e = refl
beside_funcs (f ∷ fs) [] e = absurd cc
beside_funcs (f ∷ fs) (known ∷ facts) e = ap (λ (t : List Func). f ∷ t) (beside_funcs fs facts (omega arith))

beside_facts : (fs : List Func) (facts : List FuncFacts) → length facts ≡ length fs → map (λ f. f.1) (beside fs facts) ≡ facts
beside_facts [] [] e = refl
beside_facts [] (known ∷ facts) e = absurd cc
beside_facts (f ∷ fs) [] e = absurd cc
beside_facts (f ∷ fs) (known ∷ facts) e = ap (λ (t : List FuncFacts). known ∷ t) (beside_facts fs facts (omega arith))

beside_few : (fs : List Func) (facts : List FuncFacts) → length (beside fs facts) ≤ length fs
beside_few [] facts = omega arith
beside_few (f ∷ fs) [] = omega arith
beside_few (f ∷ fs) (known ∷ facts) = let k = beside_few fs facts in omega arith

funcs_fit : (fs : List Func) (facts : List FuncFacts) → length fs ≤ largest_word → AllByRecursion func.Fits (beside fs facts) → funcs.Fits (beside fs facts)
unfolding funcs
funcs_fit fs facts le each = list_fits func (beside fs facts) (let k = beside_few fs facts in omega arith) each

abbrev with_parts : Parts → List Func → List FuncFacts → Parts × List FuncFacts
with_parts code fs facts = (record { texts = code.texts; kinds = code.kinds; impls = code.impls; funcs = fs; main = code.main }, facts)

content_fits : (code : Parts) (facts : List FuncFacts) → IsSmall code.texts code.kinds code.impls code.funcs → is_small facts ≡ true → AllByRecursion KindIsFit code.kinds → AllByRecursion ImplIsFit code.impls
    → AllByRecursion FuncIsFit (beside code.funcs facts) → code.main ≤ largest_word → InTables code facts → content.Fits (code, facts)
unfolding content texts kind_infos impl_infos
content_fits code facts small facts_small kinds impls fs main h =
    let a = and_parts (is_few (length facts)) (list_all facts_are_small facts) facts_small in
    let items = small.items_few in (
      (code.texts, (code.kinds, (code.impls, (beside code.funcs facts, code.main)))),
      sym (ap₂ (with_parts code) (beside_funcs code.funcs facts h.entries) (beside_facts code.funcs facts h.entries)),
      (
        list_fits text code.texts (let k = small.texts_few in omega arith) (texts_each code.texts small.each_text),
        (
          list_fits kind_info code.kinds (omega arith) (apply_both kind_is_small DestructorFits kind_info.Fits code.kinds small.each_kind h.kinds kinds),
          (
            list_fits impl_info code.impls (omega arith) (apply_all impl_is_small impl_info.Fits code.impls small.each_impl impls),
            (funcs_fit code.funcs facts (omega arith) (funcs_each code.funcs facts small.each_func small.instructions_few a.1 h.funcs fs), main),
          ),
        ),
      ),
    )

pub whole_fits : (code : Parts) (facts : List FuncFacts) → IsSmall code.texts code.kinds code.impls code.funcs → is_small facts ≡ true → AllByRecursion KindIsFit code.kinds → AllByRecursion ImplIsFit code.impls
    → AllByRecursion FuncIsFit (beside code.funcs facts) → code.main ≤ largest_word → InTables code facts → front.Fits (tt, (1, (code, facts)))
unfolding front
whole_fits code facts small facts_small kinds impls fs main h = (tt, (refl, content_fits code facts small facts_small kinds impls fs main h))

pub shaped_whole : (code : Parts) (facts : List FuncFacts) → IsSmall code.texts code.kinds code.impls code.funcs → is_small facts ≡ true → AllByRecursion KindIsFit code.kinds → AllByRecursion ImplIsFit code.impls
    → AllByRecursion FuncIsFit (beside code.funcs facts) → code.main ≤ largest_word → shape_fault code facts ≡ None → front.Fits (tt, (1, (code, facts)))
shaped_whole code facts small facts_small kinds impls fs main h =
    let items = small.items_few in
    whole_fits code facts small facts_small kinds impls fs main (shaped_fits code facts (omega arith) h)
