-- Declarations of fields have a code, by which lists of them are a set.
use Rattle.std.proofs.Common.{◌≡◌, ℕ, zero, suc, List, [], ◌∷◌, refl, ap}
use Rattle.std.specs.Prelude.{Bool}
use Rattle.std.specs.Coded.{Coded, Coded-set, coded_ℕ, coded_bool, coded_list, coded×, code_by}
use Rattle.vale_base.specs.declared.spot.Spot.{Spot}
use Rattle.vale_syntax.specs.declared.tree.NameAt.{NameAt}
use Rattle.vale_syntax.specs.Tree.{TypeExpr, int_type, bool_type, str_type, named_type, array_type, ref_type, imm_ref_type, iso_type, FieldDecl, field_decl}

abbrev pub coded_name : Coded NameAt
coded_name =
    code_by (ℕ × (ℕ × ℕ)) (coded× coded_ℕ (coded× coded_ℕ coded_ℕ)) (λ n. (n.name.0, (n.at.line, n.at.col)))
    (λ p. record { name = record { 0 = p.0 }; at = record { line = p.1.0; col = p.1.1 } }) (λ _. refl)

-- a spot, where no name stands
abbrev pub nameless : Spot → NameAt
nameless s = record { name = record { 0 = 0 }; at = s }

-- the words of a type, outermost first
abbrev pub words_of : TypeExpr → List (ℕ × NameAt)
words_of (int_type s) = (0, nameless s) ∷ []
words_of (bool_type s) = (1, nameless s) ∷ []
words_of (str_type s) = (2, nameless s) ∷ []
words_of (named_type n) = (3, n) ∷ []
words_of (array_type s x) = (4, nameless s) ∷ words_of x
words_of (ref_type s x) = (5, nameless s) ∷ words_of x
words_of (imm_ref_type s x) = (6, nameless s) ∷ words_of x
words_of (iso_type s x) = (7, nameless s) ∷ words_of x

abbrev pub type_by : ℕ → NameAt → TypeExpr → TypeExpr
type_by zero n x = int_type n.at
type_by (suc zero) n x = bool_type n.at
type_by (suc (suc zero)) n x = str_type n.at
type_by (suc (suc (suc zero))) n x = named_type n
type_by (suc (suc (suc (suc zero)))) n x = array_type n.at x
type_by (suc (suc (suc (suc (suc zero))))) n x = ref_type n.at x
type_by (suc (suc (suc (suc (suc (suc zero)))))) n x = imm_ref_type n.at x
type_by (suc (suc (suc (suc (suc (suc (suc k))))))) n x = iso_type n.at x

abbrev pub type_from : List (ℕ × NameAt) → TypeExpr
type_from [] = int_type (record { line = 0; col = 0 })
type_from (w ∷ ws) = type_by w.0 w.1 (type_from ws)

pub type_back : (x : TypeExpr) → type_from (words_of x) ≡ x
type_back (int_type s) = refl
type_back (bool_type s) = refl
type_back (str_type s) = refl
type_back (named_type n) = refl
type_back (array_type s x) = ap (array_type s) (type_back x)
type_back (ref_type s x) = ap (ref_type s) (type_back x)
type_back (imm_ref_type s x) = ap (imm_ref_type s) (type_back x)
type_back (iso_type s x) = ap (iso_type s) (type_back x)

abbrev pub field_parts : FieldDecl → NameAt × (Bool × List (ℕ × NameAt))
field_parts (field_decl n may_be_set x) = (n, (may_be_set, words_of x))

abbrev pub field_from : NameAt × (Bool × List (ℕ × NameAt)) → FieldDecl
field_from p = field_decl p.0 p.1.0 (type_from p.1.1)

pub field_back : (f : FieldDecl) → field_from (field_parts f) ≡ f
field_back (field_decl n may_be_set x) = ap (field_decl n may_be_set) (type_back x)

abbrev pub coded_field : Coded FieldDecl
coded_field =
    code_by (NameAt × (Bool × List (ℕ × NameAt))) (coded× coded_name (coded× coded_bool (coded_list (coded× coded_ℕ coded_name)))) field_parts field_from field_back

pub fields_set : IsSet (List FieldDecl)
fields_set = Coded-set (coded_list coded_field)
