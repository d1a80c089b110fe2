-- A code file comes to one thing at most.
use Rattle.std.proofs.Common.{◌≡◌, ◌<◌, ◌≤◌, ◌&&◌, ℕ, true, List, [], ◌∷◌, Some, None, Ok, Err, refl, sym, ap, subst, ◌∙◌, arith}
use Rattle.std.proofs.lemmas.Bool.{and_parts, leb-true}
use Rattle.std.specs.List.{list_all}
use Rattle.std.specs.Prelude.{length}
use Rattle.vale_cert.specs.Certificate.{Certified, first_fault}
use Rattle.vale_cert.specs.declared.facts.FuncFacts.{FuncFacts}
use Rattle.vale_cert.specs.declared.fault.Fault.{Fault}
use Rattle.vale_code.specs.Parts.{Parts}
use Rattle.vale_codec.proofs.FormatLaws.{IsBytes}
use Rattle.vale_codec.specs.declared.fault.Fault.{Fault as FileFault}
use Rattle.vale_file_spec.proofs.WholeLaws.{one_meaning, file_again, file_fault}
use Rattle.vale_file_spec.specs.File.{HasFault, Spells, file_read, fault_code}
use Rattle.vale_run.specs.CodeFiles.{IsReadable, Misread, too_long, misspelled, ReadsCode, Uncertified, ReadsCertified}
use Rattle.vale_syntax.specs.Bytes.{is_byte}

below : (b : ℕ) → is_byte b ≡ true → b < 256
below b is =
    let le : b ≤ 255 = leb-true b 255 is in
    omega (arith, le)

are_bytes : (bytes : List ℕ) → list_all is_byte bytes ≡ true → IsBytes bytes
are_bytes [] all = tt
are_bytes (b ∷ bytes) all =
    let parts = and_parts (is_byte b) (list_all is_byte bytes) all in
    (below b parts.0, are_bytes bytes parts.1)

-- what is read is at no fault
not_both : (bytes : List ℕ) (code : Parts) (facts : List FuncFacts) (c at : ℕ) → IsReadable bytes → Spells bytes 1 code facts → HasFault bytes c at → ⊥
not_both bytes code facts c at r s h =
    let one = file_again bytes 1 code facts s in
    let two = file_fault bytes h.fault (are_bytes bytes r.small) h.faulty in
    absurd (cc (one, two))

one_fault : (bytes : List ℕ) (c d a b : ℕ) → IsReadable bytes → HasFault bytes c a → HasFault bytes d b → (c ≡ d) × (a ≡ b)
one_fault bytes c d a b r h k =
    let one = file_fault bytes h.fault (are_bytes bytes r.small) h.faulty in
    let two = file_fault bytes k.fault (are_bytes bytes r.small) k.faulty in
    let same : h.fault ≡ k.fault = cc (one, two) in
    let left : h.fault.left ≡ k.fault.left = ap (λ (z : FileFault). z.left) same in
    (h.code_is ∙ ap (λ (z : FileFault). fault_code z.reason) same ∙ sym k.code_is, omega (arith, h.place, k.place, left))

pub one_misread : (bytes : List ℕ) (c d a b : ℕ) → Misread bytes c a → Misread bytes d b → (c ≡ d) × (a ≡ b)
one_misread bytes c d a b (too_long long x y) (too_long more z w) = (x ∙ sym z, y ∙ sym w)
one_misread bytes c d a b (too_long long x y) (misspelled r h) = absurd (omega (arith, long, r.within))
one_misread bytes c d a b (misspelled r h) (too_long long x y) = absurd (omega (arith, long, r.within))
one_misread bytes c d a b (misspelled r h) (misspelled s k) = one_fault bytes c d a b r h k

misread_reads : (bytes : List ℕ) (c a : ℕ) (code : Parts) (facts : List FuncFacts) → Misread bytes c a → ReadsCode bytes code facts → ⊥
misread_reads bytes c a code facts (too_long long x y) r = omega (arith, long, r.readable.within)
misread_reads bytes c a code facts (misspelled s h) r = not_both bytes code facts c a s r.spells h

one_code : (bytes : List ℕ) (code other : Parts) (facts known : List FuncFacts) → ReadsCode bytes code facts → ReadsCode bytes other known → (code ≡ other) × (facts ≡ known)
one_code bytes code other facts known r s =
    let all = one_meaning bytes 1 1 code other facts known r.spells s.spells in
    (all.1, all.2)

pub misread_distrusted : (bytes : List ℕ) (c a d b : ℕ) → Misread bytes c a → Uncertified bytes d b → ⊥
misread_distrusted bytes c a d b m u = misread_reads bytes c a u.code u.facts m u.reads

pub misread_certified : (bytes : List ℕ) (c a : ℕ) (code : Parts) (facts : List FuncFacts) → Misread bytes c a → ReadsCertified bytes code facts → ⊥
misread_certified bytes c a code facts m r = misread_reads bytes c a code facts m r.reads

pub distrusted_certified : (bytes : List ℕ) (d b : ℕ) (code : Parts) (facts : List FuncFacts) → Uncertified bytes d b → ReadsCertified bytes code facts → ⊥
distrusted_certified bytes d b code facts u r =
    let (same, also) = one_code bytes u.code code u.facts facts u.reads r.reads in
    let certified : first_fault u.code u.facts ≡ None = subst (λ z. first_fault z u.facts ≡ None) (sym same) (subst (λ z. first_fault code z ≡ None) (sym also) r.certified) in
    let both = sym u.first ∙ certified in
    absurd (cc both)

pub one_distrusted : (bytes : List ℕ) (c d a b : ℕ) → Uncertified bytes c a → Uncertified bytes d b → (c ≡ d) × (a ≡ b)
one_distrusted bytes c d a b u v =
    let (same, also) = one_code bytes u.code v.code u.facts v.facts u.reads v.reads in
    let first : first_fault u.code u.facts ≡ Some (record { rule = d; at = b }) = subst (λ z. first_fault z u.facts ≡ Some (record { rule = d; at = b })) (sym same) (subst (λ z. first_fault v.code z ≡ Some (record { rule = d; at = b })) (sym also) v.first) in
    let both = sym u.first ∙ first in
    let one : (let x : Fault = record { rule = c; at = a } in x) ≡ record { rule = d; at = b } = cc both in
    (ap (λ (f : Fault). f.rule) one, ap (λ (f : Fault). f.at) one)

pub one_certified : (bytes : List ℕ) (code other : Parts) (facts known : List FuncFacts) → ReadsCertified bytes code facts → ReadsCertified bytes other known → (code ≡ other) × (facts ≡ known)
one_certified bytes code other facts known r s = one_code bytes code other facts known r.reads s.reads
