-- The laws of the whole file.
use Rattle.std.proofs.Common.{◌≡◌, ℕ, zero, suc, ◌≤◌, true, false, eqb, List, [], ◌∷◌, ◌++◌, length, map, take, drop, Ok, Err, refl, sym, ap, subst, ◌∙◌, arith, inl, inr}
use Rattle.std.proofs.lemmas.List.{take-append-drop}
use Rattle.std.proofs.lemmas.Bool.{cases_Bool, eqb-true, eq-eqb, eqb-false, ne_eqb}
use Rattle.std.specs.Str.{bytes_eq}
use Rattle.std.proofs.lemmas.Slice.Eq.{bytes_eq-Decides}
use Rattle.vale_code.specs.declared.kind.KindInfo.TheVariants as k
use Rattle.vale_code.specs.declared.func.Func.{Func}
use Rattle.vale_cert.specs.declared.facts.RegFact.TheVariants as r
use Rattle.vale_cert.specs.declared.facts.FuncFacts.{FuncFacts}
use Rattle.vale_codec.specs.declared.fault.Fault.{Fault}
use Rattle.vale_codec.specs.Format.{Begins, both, followed, nothing, many, pick}
use Rattle.vale_codec.specs.Numbers.{spell, number, text}
use Rattle.vale_file_spec.specs.Types.{word, truth, kind_number, ty}
use Rattle.vale_file_spec.specs.Instructions.{words, instr}
use Rattle.vale_file_spec.specs.File.{tys, field, fields, method, methods, less_one, one_more, destructor, kind_tag, struct_parts, interface_parts, kind_payload, kind_forms, kind_info, impl_info, held, reg_tag, reg_payload, reg_forms, reg, label, labels, no_list, live, instrs, head, func, funcs, texts, kind_infos, impl_infos, beside, content, magic, mark, version_read, version, contents, front}
use Rattle.vale_codec.proofs.FormatLaws.{Lawful, ok_is, followed_lawful, made_lawful, nothing_lawful, never_lawful, many_lawful}
use Rattle.vale_codec.proofs.NumberLaws.{number_lawful, list_lawful, text_lawful, choice_lawful, made_case}
use Rattle.vale_file_spec.proofs.TypeLaws.{both_lawful, word_lawful, truth_lawful, kind_number_lawful, ty_lawful}
use Rattle.vale_file_spec.proofs.InstrLaws.{words_lawful, instr_lawful}

tys_lawful : Lawful tys
unfolding tys
tys_lawful = list_lawful ty ty_lawful

field_lawful : Lawful field
unfolding field
field_lawful = made_lawful (both ty truth) (λ p. record { ty = p.0; mutable = p.1 }) (λ f. ty.write f.ty ++ truth.write f.mutable) (both_lawful ty truth ty_lawful truth_lawful) (λ _ _. refl)

fields_lawful : Lawful fields
unfolding fields
fields_lawful = list_lawful field field_lawful

method_lawful : Lawful method
unfolding method
method_lawful = made_lawful (both word (both truth (both tys ty)))
    (λ p. record { name = p.0; is_pure = p.1.0; params = p.1.1.0; result = p.1.1.1 })
    (λ m. word.write m.name ++ (truth.write m.is_pure ++ (tys.write m.params ++ ty.write m.result)))
    (both_lawful word (both truth (both tys ty)) word_lawful (both_lawful truth (both tys ty) truth_lawful (both_lawful tys ty tys_lawful ty_lawful))) (λ _ _. refl)

methods_lawful : Lawful methods
unfolding methods
methods_lawful = list_lawful method method_lawful

again_one : (n : ℕ) → one_more (less_one n) ≡ n
again_one zero = refl
again_one (suc n) = refl

destructor_lawful : Lawful destructor
unfolding destructor
destructor_lawful = made_lawful word less_one (λ o. spell (one_more o)) word_lawful (λ n _. ap spell (again_one n))

struct_lawful : Lawful struct_parts
unfolding struct_parts
struct_lawful = both_lawful word (both destructor fields) word_lawful (both_lawful destructor fields destructor_lawful fields_lawful)

interface_lawful : Lawful interface_parts
unfolding interface_parts
interface_lawful = both_lawful word methods word_lawful methods_lawful

kind_info_lawful : Lawful kind_info
unfolding kind_info
kind_info_lawful = choice_lawful 2 kind_forms kind_tag kind_payload (
  made_case struct_parts (λ p. k.Struct p.0 p.1.0 p.1.1) kind_tag kind_payload 0 struct_lawful (λ _. refl) (λ _. refl),
  (
    made_case interface_parts (λ p. k.Interface p.0 p.1) kind_tag kind_payload 1 interface_lawful (λ _. refl) (λ _. refl),
    (made_case ty (λ item. k.Array item) kind_tag kind_payload 2 ty_lawful (λ _. refl) (λ _. refl), tt),
  ),
)

impl_lawful : Lawful impl_info
unfolding impl_info
impl_lawful = made_lawful (both kind_number (both kind_number words))
    (λ p. record { interface = p.0; «of» = p.1.0; funcs = p.1.1 })
    (λ i. kind_number.write i.interface ++ (kind_number.write i.«of» ++ words.write i.funcs))
    (both_lawful kind_number (both kind_number words) kind_number_lawful (both_lawful kind_number words kind_number_lawful words_lawful)) (λ _ _. refl)

held_lawful : Lawful held
unfolding held
held_lawful = both_lawful ty word ty_lawful word_lawful

reg_lawful : Lawful reg
unfolding reg
reg_lawful = choice_lawful 2 reg_forms reg_tag reg_payload (
  made_case nothing (λ _. r.Empty) reg_tag reg_payload 0 nothing_lawful (λ _. refl) (λ _. refl),
  (
    made_case held (λ p. r.Held p.0 p.1 false) reg_tag reg_payload 1 held_lawful (λ _. refl) (λ _. refl),
    (made_case held (λ p. r.Held p.0 p.1 true) reg_tag reg_payload 2 held_lawful (λ _. refl) (λ _. refl), tt),
  ),
)

label_lawful : (registers : ℕ) → Lawful (label registers)
unfolding label
label_lawful registers = made_lawful (both word (both word (many reg registers)))
    (λ p. record { at = p.0; depth = p.1.0; regs = p.1.1 })
    (λ l. word.write l.at ++ (word.write l.depth ++ (many reg registers).write l.regs))
    (both_lawful word (both word (many reg registers)) word_lawful (both_lawful word (many reg registers) word_lawful (many_lawful reg reg_lawful registers))) (λ _ _. refl)

labels_lawful : (registers : ℕ) → Lawful (labels registers)
unfolding labels
labels_lawful registers = list_lawful (label registers) (label_lawful registers)

no_list_lawful : Lawful no_list
no_list_lawful = made_lawful nothing (λ _. []) (λ _. []) nothing_lawful (λ _ _. refl)

live_lawful : (form : ℕ) → Lawful (live form)
unfolding live
live_lawful zero = no_list_lawful
live_lawful (suc zero) = no_list_lawful
live_lawful (suc (suc zero)) = words_lawful
live_lawful (suc (suc (suc zero))) = no_list_lawful
live_lawful (suc (suc (suc (suc n)))) = never_lawful

instrs_lawful : Lawful instrs
unfolding instrs
instrs_lawful = list_lawful instr instr_lawful

head_lawful : Lawful head
unfolding head
head_lawful = both_lawful word (both (number 3) (both tys (both ty word))) word_lawful
    (both_lawful (number 3) (both tys (both ty word)) (number_lawful 3) (both_lawful tys (both ty word) tys_lawful (both_lawful ty word ty_lawful word_lawful)))

func_lawful : Lawful func
unfolding func
func_lawful = made_lawful (followed head (λ h. both instrs (both (live h.1.0) (labels h.1.1.1.1))))
    (λ p. (
      record { name = p.0.0; form = p.0.1.0; params = p.0.1.1.0; result = p.0.1.1.1.0; registers = p.0.1.1.1.1; body = p.1.0 },
      record { live = p.1.1.0; labels = p.1.1.1 },
    ))
    (λ f. head.write (f.0.name, (f.0.form, (f.0.params, (f.0.result, f.0.registers))))
    ++ (instrs.write f.0.body ++ ((live f.0.form).write f.1.live ++ (labels f.0.registers).write f.1.labels)))
    (followed_lawful head (λ h. both instrs (both (live h.1.0) (labels h.1.1.1.1))) head_lawful
    (λ h. both_lawful instrs (both (live h.1.0) (labels h.1.1.1.1)) instrs_lawful (both_lawful (live h.1.0) (labels h.1.1.1.1) (live_lawful h.1.0) (labels_lawful h.1.1.1.1))))
    (λ _ _. refl)

funcs_lawful : Lawful funcs
unfolding funcs
funcs_lawful = list_lawful func func_lawful

texts_lawful : Lawful texts
unfolding texts
texts_lawful = list_lawful text text_lawful

kind_infos_lawful : Lawful kind_infos
unfolding kind_infos
kind_infos_lawful = list_lawful kind_info kind_info_lawful

impl_infos_lawful : Lawful impl_infos
unfolding impl_infos
impl_infos_lawful = list_lawful impl_info impl_lawful

beside_again : (l : List (Func × FuncFacts)) → beside (map (λ f. f.0) l) (map (λ f. f.1) l) ≡ l
beside_again [] = refl
beside_again (f ∷ l) = ap (λ (t : List (Func × FuncFacts)). f ∷ t) (beside_again l)

pub content_lawful : Lawful content
unfolding content
content_lawful = made_lawful (both texts (both kind_infos (both impl_infos (both funcs word))))
    (λ p. (record { texts = p.0; kinds = p.1.0; impls = p.1.1.0; funcs = map (λ f. f.0) p.1.1.1.0; main = p.1.1.1.1 }, map (λ f. f.1) p.1.1.1.0))
    (λ x. texts.write x.0.texts ++ (kind_infos.write x.0.kinds ++ (impl_infos.write x.0.impls ++ (funcs.write (beside x.0.funcs x.1) ++ word.write x.0.main))))
    (both_lawful texts (both kind_infos (both impl_infos (both funcs word))) texts_lawful
    (both_lawful kind_infos (both impl_infos (both funcs word)) kind_infos_lawful
    (both_lawful impl_infos (both funcs word) impl_infos_lawful (both_lawful funcs word funcs_lawful word_lawful))))
    (λ p _. ap (λ (l : List (Func × FuncFacts)). texts.write p.0 ++ (kind_infos.write p.1.0 ++ (impl_infos.write p.1.1.0 ++ (funcs.write l ++ word.write p.1.1.1.1)))) (beside_again p.1.1.1.0))

pub mark_lawful : Lawful mark
mark_lawful = record {
  takes = λ bytes x fits e.
      elim (cases_Bool (bytes_eq (take 4 bytes) magic)) [
        | inl t ↦
            let h = rw t at e in
            let front : take 4 bytes ≡ magic = (bytes_eq-Decides (take 4 bytes) magic).0 t in
            subst (λ (y : Unit {0} × List ℕ). Begins mark bytes y.0 y.1) (ok_is (tt, drop 4 bytes) x h)
            (record { fits = tt; parts = sym (take-append-drop 4 bytes) ∙ ap (λ (f : List ℕ). f ++ drop 4 bytes) front })
        | inr t ↦ absurd (let h = rw t at e in cc)
      ];
  again = λ x rest fits. refl;
  met = λ bytes e fits h.
      elim (cases_Bool (bytes_eq (take 4 bytes) magic)) [
        | inl t ↦ absurd (let k = rw t at h in cc)
        | inr t ↦ let k = rw t at h in (λ same. let other = (bytes_eq-Decides (take 4 bytes) magic).1 same in absurd cc, cc)
      ];
  fault = λ bytes e fits h.
      elim (cases_Bool (bytes_eq (take 4 bytes) magic)) [
        | inl t ↦ absurd (h.0 ((bytes_eq-Decides (take 4 bytes) magic).0 t))
        | inr t ↦ rw t (ap (λ (d : Fault). Err d) h.1)
      ];
  near = λ bytes e h. let k : e.left ≡ length bytes = ap (λ (d : Fault). d.left) (sym h.1) in omega arith;
}

version_takes : (bytes : List ℕ) (x : ℕ × List ℕ) → version_read bytes ≡ Ok x → Begins version bytes x.0 x.1
version_takes [] x e = absurd cc
version_takes (v ∷ rest) x e =
    elim (cases_Bool (eqb v 1)) [
      | inl t ↦
          let h = rw t at e in
          subst (λ (y : ℕ × List ℕ). Begins version (v ∷ rest) y.0 y.1) (ok_is (v, rest) x h) (record { fits = eqb-true v 1 t; parts = refl })
      | inr t ↦ absurd (let h = rw t at e in cc)
    ]

version_met : (bytes : List ℕ) (e : Fault) → version_read bytes ≡ Err e → version.Faulty bytes e
version_met [] e h = cc
version_met (v ∷ rest) e h =
    elim (cases_Bool (eqb v 1)) [
      | inl t ↦ absurd (let k = rw t at h in cc)
      | inr t ↦ let k = rw t at h in (eqb-false v 1 t, cc)
    ]

version_fault : (bytes : List ℕ) (e : Fault) → version.Faulty bytes e → version_read bytes ≡ Err e
version_fault [] e h = ap (λ (d : Fault). Err d) h
version_fault (v ∷ rest) e h = rw (ne_eqb v 1 h.0) (ap (λ (d : Fault). Err d) h.1)

version_near : (bytes : List ℕ) (e : Fault) → version.Faulty bytes e → e.left ≤ length bytes
version_near [] e h = let k : e.left ≡ 0 = ap (λ (d : Fault). d.left) (sym h) in omega arith
version_near (v ∷ rest) e h = let k : e.left ≡ suc (length rest) = ap (λ (d : Fault). d.left) (sym h.1) in omega arith

pub version_lawful : Lawful version
version_lawful = record {
  takes = λ bytes x fits e. version_takes bytes x e;
  again = λ v rest fits. rw (eq-eqb v 1 fits) refl;
  met = λ bytes e fits h. version_met bytes e h;
  fault = λ bytes e fits h. version_fault bytes e h;
  near = version_near;
}

contents_lawful : (v : ℕ) → Lawful (pick contents v)
contents_lawful zero = never_lawful
contents_lawful (suc zero) = content_lawful
contents_lawful (suc (suc v)) = never_lawful

pub front_lawful : Lawful front
unfolding front
front_lawful = both_lawful mark (followed version (pick contents)) mark_lawful (followed_lawful version (pick contents) version_lawful contents_lawful)
