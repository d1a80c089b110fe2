-- The format of a file: kinds, implementations, functions with their facts, and the whole.
use Rattle.std.specs.Prelude.{◌≡◌, ◌≢◌, ℕ, zero, suc, ◌+◌, List, [], ◌∷◌, ◌++◌, length, map, take, drop, Option, Some, None, Result, Ok, Err, true, false, ◌==◌, ◌⊎◌, if◌then◌else◌}
use Rattle.std.specs.List.{flat_map}
use Rattle.std.specs.Str.{bytes_eq}
use Rattle.vale_code.specs.Parts.{Parts}
use Rattle.vale_code.specs.declared.ty.Ty.{Ty}
use Rattle.vale_code.specs.declared.kind.Field.{Field}
use Rattle.vale_code.specs.declared.kind.MethodInfo.{MethodInfo}
use Rattle.vale_code.specs.declared.kind.KindInfo.{KindInfo}
use Rattle.vale_code.specs.declared.kind.KindInfo.TheVariants as k
use Rattle.vale_code.specs.declared.func.Impl.{Impl}
use Rattle.vale_code.specs.declared.func.Func.{Func}
use Rattle.vale_code.specs.declared.instr.Instr.{Instr}
use Rattle.vale_cert.specs.declared.facts.RegFact.{RegFact}
use Rattle.vale_cert.specs.declared.facts.RegFact.TheVariants as r
use Rattle.vale_cert.specs.declared.facts.Label.{Label}
use Rattle.vale_cert.specs.declared.facts.FuncFacts.{FuncFacts}
use Rattle.vale_codec.specs.declared.fault.Fault.{Fault}
use Rattle.vale_codec.specs.declared.fault.Reason.{Reason}
use Rattle.vale_codec.specs.declared.fault.Reason.TheVariants.{Magic, Version, Ends, Number, Trailing}
use Rattle.vale_codec.specs.Format.{Format, Begins, both, followed, made, nothing, never, many, pick, ◌>>=◌}
use Rattle.vale_codec.specs.Numbers.{spell, number, list_of, text, choice}
use Rattle.vale_file_spec.specs.Types.{word, truth, kind_number, ty}
use Rattle.vale_file_spec.specs.Instructions.{words, instr}

unfoldable pub tys : Format (List Ty)
tys = list_of ty

unfoldable pub field : Format Field
field = made (both ty truth) (λ p. record { ty = p.0; mutable = p.1 }) (λ f. ty.write f.ty ++ truth.write f.mutable)

unfoldable pub fields : Format (List Field)
fields = list_of field

unfoldable pub method : Format MethodInfo
method = made (both word (both truth (both tys ty)))
    (λ p. record { name = p.0; is_pure = p.1.0; params = p.1.1.0; result = p.1.1.1 })
    (λ m. word.write m.name ++ (truth.write m.is_pure ++ (tys.write m.params ++ ty.write m.result)))

unfoldable pub methods : Format (List MethodInfo)
methods = list_of method

-- nothing, or 1 + a number
abbrev pub less_one : ℕ → Option ℕ
less_one zero = None
less_one (suc n) = Some n

abbrev pub one_more : Option ℕ → ℕ
one_more None = 0
one_more (Some n) = suc n

unfoldable pub destructor : Format (Option ℕ)
destructor = made word less_one (λ o. spell (one_more o))

abbrev pub kind_tag : KindInfo → ℕ
kind_tag (k.Struct _ _ _) = 0
kind_tag (k.Interface _ _) = 1
kind_tag (k.Array _) = 2

unfoldable pub struct_parts : Format (ℕ × (Option ℕ × List Field))
struct_parts = both word (both destructor fields)

unfoldable pub interface_parts : Format (ℕ × List MethodInfo)
interface_parts = both word methods

abbrev pub kind_payload : KindInfo → List ℕ
kind_payload (k.Struct name d fs) = struct_parts.write (name, (d, fs))
kind_payload (k.Interface name ms) = interface_parts.write (name, ms)
kind_payload (k.Array item) = ty.write item

abbrev pub kind_forms : List (Format KindInfo)
kind_forms = made struct_parts (λ p. k.Struct p.0 p.1.0 p.1.1) kind_payload
    ∷ made interface_parts (λ p. k.Interface p.0 p.1) kind_payload
    ∷ made ty (λ item. k.Array item) kind_payload
    ∷ []

unfoldable pub kind_info : Format KindInfo
kind_info = choice 2 kind_forms kind_tag kind_payload

unfoldable pub impl_info : Format Impl
impl_info = made (both kind_number (both kind_number words))
    (λ p. record { interface = p.0; «of» = p.1.0; funcs = p.1.1 })
    (λ i. kind_number.write i.interface ++ (kind_number.write i.«of» ++ words.write i.funcs))

-- ---- facts

unfoldable pub held : Format (Ty × ℕ)
held = both ty word

abbrev pub reg_tag : RegFact → ℕ
reg_tag r.Empty = 0
reg_tag (r.Held _ _ false) = 1
reg_tag (r.Held _ _ true) = 2

abbrev pub reg_payload : RegFact → List ℕ
reg_payload r.Empty = []
reg_payload (r.Held t depth live) = held.write (t, depth)

abbrev pub reg_forms : List (Format RegFact)
reg_forms = made nothing (λ _. r.Empty) reg_payload
    ∷ made held (λ p. r.Held p.0 p.1 false) reg_payload
    ∷ made held (λ p. r.Held p.0 p.1 true) reg_payload
    ∷ []

unfoldable pub reg : Format RegFact
reg = choice 2 reg_forms reg_tag reg_payload

abbrev pub label_write : Label → List ℕ
label_write l = word.write l.at ++ (word.write l.depth ++ flat_map reg.write l.regs)

-- a label of a function with so many registers, whose count isn't written
unfoldable pub label : ℕ → Format Label
label registers = made (both word (both word (many reg registers)))
    (λ p. record { at = p.0; depth = p.1.0; regs = p.1.1 })
    label_write

unfoldable pub labels : ℕ → Format (List Label)
labels registers = list_of (label registers)

-- the live parameters, which only a function of form 2 has
abbrev pub no_list : Format (List ℕ)
no_list = made nothing (λ _. []) (λ _. [])

unfoldable pub live : ℕ → Format (List ℕ)
live form = pick (no_list ∷ no_list ∷ words ∷ no_list ∷ []) form

-- ---- functions

unfoldable pub instrs : Format (List Instr)
instrs = list_of instr

-- name, form, parameters, result, number of registers
unfoldable pub head : Format (ℕ × (ℕ × (List Ty × (Ty × ℕ))))
head = both word (both (number 3) (both tys (both ty word)))

unfoldable pub func : Format (Func × FuncFacts)
func = made (followed head (λ h. both instrs (both (live h.1.0) (labels h.1.1.1.1))))
    (λ p. (
      record { name = p.0.0; form = p.0.1.0; params = p.0.1.1.0; result = p.0.1.1.1.0; registers = p.0.1.1.1.1; body = p.1.0 },
      record { live = p.1.1.0; labels = p.1.1.1 },
    ))
    (λ f. head.write (f.0.name, (f.0.form, (f.0.params, (f.0.result, f.0.registers))))
    ++ (instrs.write f.0.body ++ ((live f.0.form).write f.1.live ++ (labels f.0.registers).write f.1.labels)))

unfoldable pub funcs : Format (List (Func × FuncFacts))
funcs = list_of func

unfoldable pub texts : Format (List (List ℕ))
texts = list_of text

unfoldable pub kind_infos : Format (List KindInfo)
kind_infos = list_of kind_info

unfoldable pub impl_infos : Format (List Impl)
impl_infos = list_of impl_info

-- ---- the whole

-- functions beside their facts
abbrev pub beside : List Func → List FuncFacts → List (Func × FuncFacts)
beside [] facts = []
beside (f ∷ fs) [] = []
beside (f ∷ fs) (x ∷ facts) = (f, x) ∷ beside fs facts

unfoldable pub content : Format (Parts × List FuncFacts)
content = made (both texts (both kind_infos (both impl_infos (both funcs word))))
    (λ p. (record { texts = p.0; kinds = p.1.0; impls = p.1.1.0; funcs = map (λ f. f.0) p.1.1.1.0; main = p.1.1.1.1 }, map (λ f. f.1) p.1.1.1.0))
    (λ x. texts.write x.0.texts ++ (kind_infos.write x.0.kinds ++ (impl_infos.write x.0.impls ++ (funcs.write (beside x.0.funcs x.1) ++ word.write x.0.main))))

abbrev pub magic : List ℕ
magic = 86 ∷ 65 ∷ 76 ∷ 67 ∷ []

-- The bytes of every code file.
abbrev pub mark : Format (Unit {0})
mark = record {
  read = λ bytes. if bytes_eq (take 4 bytes) magic then Ok (tt, drop 4 bytes) else Err (record { reason = Magic; left = length bytes });
  write = λ _. magic;
  Fits = λ _. Unit {0};
  Faulty = λ bytes e. (take 4 bytes ≢ magic) × (record { reason = Magic; left = length bytes } ≡ e);
}

-- The version, of which there is one so far.
abbrev pub version_read : List ℕ → Result (ℕ × List ℕ) Fault
version_read [] = Err (record { reason = Ends; left = 0 })
version_read (v ∷ rest) = if v == 1 then Ok (v, rest) else Err (record { reason = Version; left = suc (length rest) })

abbrev pub version_faulty : List ℕ → Fault → Type 0
version_faulty [] e = record { reason = Ends; left = 0 } ≡ e
version_faulty (v ∷ rest) e = (v ≢ 1) × (record { reason = Version; left = suc (length rest) } ≡ e)

abbrev pub version : Format ℕ
version = record {
  read = version_read;
  write = λ v. v ∷ [];
  Fits = λ v. v ≡ 1;
  Faulty = version_faulty;
}

-- The format of the content in each version, by its number.
abbrev pub contents : List (Format (Parts × List FuncFacts))
contents = never ∷ content ∷ []

unfoldable pub front : Format (Unit {0} × (ℕ × (Parts × List FuncFacts)))
front = both mark (followed version (pick contents))

-- A file spells a code with its facts.
pub record Spells (bytes : List ℕ) (version : ℕ) (code : Parts) (facts : List FuncFacts) : Type 0 where
  pub fits : front.Fits (tt, (version, (code, facts)))
  pub whole : bytes ≡ front.write (tt, (version, (code, facts)))

-- The first fault of a file: in a part, or that bytes follow the last part.
abbrev pub Trails : List ℕ → Fault → Type 0
Trails bytes e = (x : Unit {0} × (ℕ × (Parts × List FuncFacts))) × (b : ℕ) × (rest : List ℕ) × Begins front bytes x (b ∷ rest) × (record { reason = Trailing; left = suc (length rest) } ≡ e)

abbrev pub IsFaulty : List ℕ → Fault → Type 0
IsFaulty bytes e = front.Faulty bytes e ⊎ Trails bytes e

-- nothing may follow
abbrev pub ended : {A : Type 0} → A × List ℕ → Result A Fault
ended (x, []) = Ok x
ended (x, (b ∷ rest)) = Err (record { reason = Trailing; left = suc (length rest) })

unfoldable pub file_read : List ℕ → Result (Unit {0} × (ℕ × (Parts × List FuncFacts))) Fault
file_read bytes = front.read bytes >>= ended

-- ---- what a caller sees

abbrev pub fault_code : Reason → ℕ
fault_code Magic = 1
fault_code Version = 2
fault_code Ends = 3
fault_code Number = 4
fault_code Trailing = 5

-- The first fault of the file, by its code and its place.
pub record HasFault (bytes : List ℕ) (code at : ℕ) : Type 0 where
  pub fault : Fault
  pub faulty : IsFaulty bytes fault
  pub code_is : code ≡ fault_code fault.reason
  pub place : at + fault.left ≡ length bytes
