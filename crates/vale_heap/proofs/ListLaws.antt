-- Laws of lists that share their items: rings of nodes after a swap of what comes after two of them.
use Rattle.std.proofs.Common.{◌≡◌, ◌≢◌, ◌⊎◌, ℕ, zero, suc, ◌+◌, ◌-◌, ◌<◌, ◌≤◌, List, [], ◌∷◌, ◌++◌, length, get_or, set, take, replicate, Option, Some, None, cond, refl, sym, ap, subst, ◌∙◌, inl, inr, arith, nat_eq, length-append}
use Rattle.std.proofs.lemmas.Bool.{cases_eq, cases_lt, lt-ltb, le-ltb, eq-eqb, ne_eqb}
use Rattle.std.proofs.lemmas.Option.{same_Some}
use Rattle.std.proofs.lemmas.List.{length-set, set-set, get_or-set_same, get_or-set_other, get_or-take, length-take-le, get_or-replicate, length-replicate, get_or_past}
use Rattle.vale_heap.specs.ListState.{list_of_node, IsRinged, unlinked_next, unlinked_previous, linked_next, linked_previous}

abbrev pub at : List ℕ → ℕ → ℕ
at xs i = get_or xs i 0

-- ---- the list of a node

pub node_item : (on : List (Option ℕ)) (node : ℕ) → node < length on → list_of_node on node ≡ get_or on node None
node_item on node h = ap (λ b. cond b (get_or on node None) (Some (node - length on))) (lt-ltb node (length on) h)

pub node_head : (on : List (Option ℕ)) (node : ℕ) → length on ≤ node → list_of_node on node ≡ Some (node - length on)
node_head on node h = ap (λ b. cond b (get_or on node None) (Some (node - length on))) (le-ltb node (length on) h)

pub node_of_head : (on : List (Option ℕ)) (list : ℕ) → list_of_node on (length on + list) ≡ Some list
node_of_head on list = node_head on (length on + list) (omega arith) ∙ ap (λ n. Some n) (omega arith)

-- a head of this list is the list's own
pub head_is : (on : List (Option ℕ)) (node list : ℕ) → length on ≤ node → list_of_node on node ≡ Some list → node ≡ length on + list
head_is on node list h e = let same = same_Some _ _ (sym (node_head on node h) ∙ e) in omega (arith, same, h)

pub node_set_same : (on : List (Option ℕ)) (item : ℕ) (o : Option ℕ) → item < length on → list_of_node (set on item o) item ≡ o
node_set_same on item o h = node_item (set on item o) item (omega (arith, length-set on item o, h)) ∙ get_or-set_same on item o None h

pub node_set_other : (on : List (Option ℕ)) (item node : ℕ) (o : Option ℕ) → node ≢ item → list_of_node (set on item o) node ≡ list_of_node on node
node_set_other on item node o apart = elim (cases_lt node (length on)) [
  | inl h ↦ node_item (set on item o) node (omega (arith, length-set on item o, h)) ∙ get_or-set_other on item node o None apart ∙ sym (node_item on node h)
  | inr h ↦ node_head (set on item o) node (omega (arith, length-set on item o, h)) ∙ ap (λ n. Some (node - n)) (length-set on item o) ∙ sym (node_head on node h)
]

-- ---- a swap of what comes after two nodes

-- what the swap gives, node by node
pub record IsSpliced (next previous new_next new_previous : List ℕ) (one other : ℕ) : Type 0 where
  pub after_other : at new_next other ≡ at next one
  pub after_one : at new_next one ≡ at next other
  pub after_rest : (node : ℕ) → node ≢ one → node ≢ other → at new_next node ≡ at next node
  pub before_after_one : at new_previous (at next one) ≡ other
  pub before_after_other : at new_previous (at next other) ≡ one
  pub before_rest : (node : ℕ) → node ≢ at next one → node ≢ at next other → at new_previous node ≡ at previous node
  pub nexts : length new_next ≡ length next
  pub previouses : length new_previous ≡ length previous

module _ (next previous : List ℕ) (on : List (Option ℕ)) (lists : ℕ) (ok : IsRinged next previous on lists) (one other : ℕ) (one_within : one < length on + lists) (other_within : other < length on + lists) where
  abbrev nodes : ℕ
  nodes = length on + lists

  -- two nodes before one node are one node
  same_before : (a b : ℕ) → a < length on + lists → b < length on + lists → at next a ≡ at next b → a ≡ b
  same_before a b ha hb e = sym (ok.back a ha) ∙ ap (at previous) e ∙ ok.back b hb

  pub splice_law : IsSpliced next previous (set (set next one (at next other)) other (at next one)) (set (set previous (at next other) one) (at next one) other) one other
  splice_law =
      let next_one = ok.next_within one one_within in
      let next_other = ok.next_within other other_within in
      record {
        after_other = get_or-set_same (set next one (at next other)) other (at next one) 0 (omega (arith, length-set next one (at next other), ok.nexts, other_within));
        after_one = elim (cases_eq one other) [
          | inl same ↦ ap (at (set (set next one (at next other)) other (at next one))) same ∙ get_or-set_same (set next one (at next other)) other (at next one) 0 (omega (arith, length-set next one (at next other), ok.nexts, other_within)) ∙ ap (at next) same
          | inr apart ↦ get_or-set_other (set next one (at next other)) other one (at next one) 0 apart ∙ get_or-set_same next one (at next other) 0 (omega (arith, ok.nexts, one_within))
        ];
        after_rest = λ node a b. get_or-set_other (set next one (at next other)) other node (at next one) 0 b ∙ get_or-set_other next one node (at next other) 0 a;
        before_after_one = get_or-set_same (set previous (at next other) one) (at next one) other 0 (omega (arith, length-set previous (at next other) one, ok.previouses, next_one));
        before_after_other = elim (cases_eq (at next other) (at next one)) [
          | inl same ↦ ap (at (set (set previous (at next other) one) (at next one) other)) same ∙ get_or-set_same (set previous (at next other) one) (at next one) other 0 (omega (arith, length-set previous (at next other) one, ok.previouses, next_one)) ∙ same_before other one other_within one_within same
          | inr apart ↦ get_or-set_other (set previous (at next other) one) (at next one) (at next other) other 0 apart ∙ get_or-set_same previous (at next other) one 0 (omega (arith, ok.previouses, next_other))
        ];
        before_rest = λ node a b. get_or-set_other (set previous (at next other) one) (at next one) node other 0 a ∙ get_or-set_other previous (at next other) node one 0 b;
        nexts = length-set (set next one (at next other)) other (at next one) ∙ length-set next one (at next other);
        previouses = length-set (set previous (at next other) one) (at next one) other ∙ length-set previous (at next other) one;
      }

  module _ (new_next new_previous : List ℕ) (new : IsSpliced next previous new_next new_previous one other) where
    pub splice_next_within : (node : ℕ) → node < length on + lists → at new_next node < length on + lists
    splice_next_within node h = elim (cases_eq node other) [
      | inl b ↦ subst (λ n. n < length on + lists) (sym (ap (at new_next) b ∙ new.after_other)) (ok.next_within one one_within)
      | inr not_other ↦ elim (cases_eq node one) [
        | inl a ↦ subst (λ n. n < length on + lists) (sym (ap (at new_next) a ∙ new.after_one)) (ok.next_within other other_within)
        | inr not_one ↦ subst (λ n. n < length on + lists) (sym (new.after_rest node not_one not_other)) (ok.next_within node h)
      ]
    ]

    pub splice_previous_within : (node : ℕ) → node < length on + lists → at new_previous node < length on + lists
    splice_previous_within node h = elim (cases_eq node (at next one)) [
      | inl a ↦ subst (λ n. n < length on + lists) (sym (ap (at new_previous) a ∙ new.before_after_one)) other_within
      | inr not_one ↦ elim (cases_eq node (at next other)) [
        | inl b ↦ subst (λ n. n < length on + lists) (sym (ap (at new_previous) b ∙ new.before_after_other)) one_within
        | inr not_other ↦ subst (λ n. n < length on + lists) (sym (new.before_rest node not_one not_other)) (ok.previous_within node h)
      ]
    ]

    pub splice_back : (node : ℕ) → node < length on + lists → at new_previous (at new_next node) ≡ node
    splice_back node h = elim (cases_eq node other) [
      | inl b ↦ ap (λ n. at new_previous (at new_next n)) b ∙ ap (at new_previous) new.after_other ∙ new.before_after_one ∙ sym b
      | inr not_other ↦ elim (cases_eq node one) [
        | inl a ↦ ap (λ n. at new_previous (at new_next n)) a ∙ ap (at new_previous) new.after_one ∙ new.before_after_other ∙ sym a
        | inr not_one ↦
            ap (at new_previous) (new.after_rest node not_one not_other)
            ∙ new.before_rest (at next node) (λ e. not_one (same_before node one h one_within e)) (λ e. not_other (same_before node other h other_within e))
            ∙ ok.back node h
      ]
    ]

    pub splice_forth : (node : ℕ) → node < length on + lists → at new_next (at new_previous node) ≡ node
    splice_forth node h = elim (cases_eq node (at next one)) [
      | inl a ↦ ap (λ n. at new_next (at new_previous n)) a ∙ ap (at new_next) new.before_after_one ∙ new.after_other ∙ sym a
      | inr not_one ↦ elim (cases_eq node (at next other)) [
        | inl b ↦ ap (λ n. at new_next (at new_previous n)) b ∙ ap (at new_next) new.before_after_other ∙ new.after_one ∙ sym b
        | inr not_other ↦
            ap (at new_next) (new.before_rest node not_one not_other)
            ∙ new.after_rest (at previous node) (λ e. not_one (sym (ok.forth node h) ∙ ap (at next) e)) (λ e. not_other (sym (ok.forth node h) ∙ ap (at next) e))
            ∙ ok.forth node h
      ]
    ]

-- ---- an item leaves its list

module _ (next previous : List ℕ) (on : List (Option ℕ)) (lists item : ℕ) (ok : IsRinged next previous on lists) (within : item < length on) where
  abbrev before : ℕ
  before = at previous item

  item_node : item < length on + lists
  item_node = omega (arith, within)

  before_node : at previous item < length on + lists
  before_node = ok.previous_within item item_node

  -- the item's ring is of the item's list
  before_alike : list_of_node on (at previous item) ≡ list_of_node on item
  before_alike = sym (ok.alike (at previous item) before_node) ∙ ap (list_of_node on) (ok.forth item item_node)

  abbrev left_next : List ℕ
  left_next = set (set next (at previous item) (at next item)) item (at next (at previous item))

  abbrev left_previous : List ℕ
  left_previous = set (set previous (at next item) (at previous item)) (at next (at previous item)) item

  left : IsSpliced next previous left_next left_previous (at previous item) item
  left = splice_law next previous on lists ok (at previous item) item before_node item_node

  left_alone : at left_next item ≡ item
  left_alone = left.after_other ∙ ok.forth item item_node

  -- another node's next is the old one, or the item's
  left_cases : (node : ℕ) → node < length on + lists → node ≢ item → ((node ≡ at previous item) × (at left_next node ≡ at next item)) ⊎ ((node ≢ at previous item) × (at left_next node ≡ at next node) × (at next node ≢ item))
  left_cases node h apart = elim (cases_eq node (at previous item)) [
    | inl is ↦ inl (is, ap (at left_next) is ∙ left.after_one)
    | inr other ↦ inr (other, left.after_rest node other apart, λ e. other (sym (ok.back node h) ∙ ap (at previous) e))
  ]

  left_alike : (node : ℕ) → node < length on + lists → list_of_node (set on item None) (at left_next node) ≡ list_of_node (set on item None) node
  left_alike node h = elim (cases_eq node item) [
    | inl is ↦ ap (λ n. list_of_node (set on item None) (at left_next n)) is ∙ ap (list_of_node (set on item None)) left_alone ∙ ap (list_of_node (set on item None)) (sym is)
    | inr apart ↦ elim (left_cases node h apart) [
      | inl was ↦
          let moved : at next item ≢ item = λ e. apart (was.0 ∙ ap (at previous) (sym e) ∙ ok.back item item_node) in
          ap (list_of_node (set on item None)) was.1 ∙ node_set_other on item (at next item) None moved ∙ ok.alike item item_node ∙ sym before_alike ∙ ap (list_of_node on) (sym was.0) ∙ sym (node_set_other on item node None apart)
      | inr was ↦ ap (list_of_node (set on item None)) was.1 ∙ node_set_other on item (at next node) None was.2 ∙ ok.alike node h ∙ sym (node_set_other on item node None apart)
    ]
  ]

  -- what is on a list now was on it, and is not the item
  left_listed : (node list : ℕ) → get_or (set on item None) node None ≡ Some list → (node ≢ item) × (get_or on node None ≡ Some list)
  left_listed node list e = elim (cases_eq node item) [
    | inl is ↦ absurd (let clash : None ≡ Some list = sym (get_or-set_same on item None None within) ∙ ap (λ n. get_or (set on item None) n None) (sym is) ∙ e in cc)
    | inr apart ↦ (apart, sym (get_or-set_other on item node None None apart) ∙ e)
  ]

  left_falls : (node list : ℕ) → node < length on → get_or on node None ≡ Some list → node ≢ item → (at left_next node ≡ length on + list) ⊎ (ok.rank (at left_next node) < ok.rank node)
  left_falls node list h e apart = elim (left_cases node (omega (arith, h)) apart) [
    | inr was ↦ elim (ok.falls node list h e) [
      | inl head ↦ inl (was.1 ∙ head)
      | inr less ↦ inr (subst (λ n. ok.rank n < ok.rank node) (sym was.1) less)
    ]
    | inl was ↦
        let to_item : at next node ≡ item = ap (at next) was.0 ∙ ok.forth item item_node in
        let of_list : get_or on item None ≡ Some list = sym (node_item on item within) ∙ sym before_alike ∙ ap (list_of_node on) (sym was.0) ∙ node_item on node h ∙ e in
        let below : ok.rank item < ok.rank node = elim (ok.falls node list h e) [
          | inl head ↦ absurd (omega (arith, within, to_item, head))
          | inr less ↦ subst (λ n. ok.rank n < ok.rank node) to_item less
        ] in
        elim (ok.falls item list within of_list) [
          | inl head ↦ inl (was.1 ∙ head)
          | inr less ↦ inr (subst (λ n. ok.rank n < ok.rank node) (sym was.1) (omega (arith, less, below)))
        ]
  ]

  pub left_ringed : IsRinged (set (set next (at previous item) (at next item)) item (at next (at previous item))) (set (set previous (at next item) (at previous item)) (at next (at previous item)) item) (set on item None) lists
  left_ringed = record {
    nexts = left.nexts ∙ ok.nexts ∙ ap (λ n. n + lists) (sym (length-set on item None));
    previouses = left.previouses ∙ ok.previouses ∙ ap (λ n. n + lists) (sym (length-set on item None));
    next_within = λ node h. subst (λ n. at left_next node < n + lists) (sym (length-set on item None)) (splice_next_within next previous on lists ok (at previous item) item before_node item_node left_next left_previous left node (omega (arith, length-set on item None, h)));
    previous_within = λ node h. subst (λ n. at left_previous node < n + lists) (sym (length-set on item None)) (splice_previous_within next previous on lists ok (at previous item) item before_node item_node left_next left_previous left node (omega (arith, length-set on item None, h)));
    back = λ node h. splice_back next previous on lists ok (at previous item) item before_node item_node left_next left_previous left node (omega (arith, length-set on item None, h));
    forth = λ node h. splice_forth next previous on lists ok (at previous item) item before_node item_node left_next left_previous left node (omega (arith, length-set on item None, h));
    alike = λ node h. left_alike node (omega (arith, length-set on item None, h));
    alone = λ node h e. elim (cases_eq node item) [
      | inl is ↦ ap (at left_next) is ∙ left_alone ∙ sym is
      | inr apart ↦
          let h2 : node < length on = omega (arith, length-set on item None, h) in
          let was = ok.alone node h2 (sym (get_or-set_other on item node None None apart) ∙ e) in
          elim (left_cases node (omega (arith, h2)) apart) [
            | inl at_before ↦ absurd (apart (sym was ∙ ap (at next) at_before.0 ∙ ok.forth item item_node))
            | inr same ↦ same.1 ∙ was
          ]
    ];
    listed = λ node list h e. let was = left_listed node list e in ok.listed node list (omega (arith, length-set on item None, h)) was.1;
    rank = ok.rank;
    falls = λ node list h e.
        let was = left_listed node list e in
        subst (λ n. (at left_next node ≡ n + list) ⊎ (ok.rank (at left_next node) < ok.rank node)) (sym (length-set on item None))
        (left_falls node list (omega (arith, length-set on item None, h)) was.1 was.0);
  }

-- ---- an item comes to the front of a list

module _ (next previous : List ℕ) (on : List (Option ℕ)) (lists item list : ℕ) (ok : IsRinged next previous on lists) (within : item < length on) (alone : get_or on item None ≡ None) (list_within : list < lists) where
  abbrev head : ℕ
  head = length on + list

  put_item_node : item < length on + lists
  put_item_node = omega (arith, within)

  head_node : length on + list < length on + lists
  head_node = omega (arith, list_within)

  item_alone : at next item ≡ item
  item_alone = ok.alone item within alone

  head_apart : length on + list ≢ item
  head_apart e = omega (arith, within, e)

  -- no other node comes before the item
  to_item : (node : ℕ) → node < length on + lists → at next node ≡ item → node ≡ item
  to_item node h e = sym (ok.back node h) ∙ ap (at previous) (e ∙ sym item_alone) ∙ ok.back item put_item_node

  first_apart : at next (length on + list) ≢ item
  first_apart e = head_apart (to_item (length on + list) head_node e)

  abbrev put_next : List ℕ
  put_next = set (set next (length on + list) (at next item)) item (at next (length on + list))

  abbrev put_previous : List ℕ
  put_previous = set (set previous (at next item) (length on + list)) (at next (length on + list)) item

  put : IsSpliced next previous put_next put_previous (length on + list) item
  put = splice_law next previous on lists ok (length on + list) item head_node put_item_node

  after_head : at put_next (length on + list) ≡ item
  after_head = put.after_one ∙ item_alone

  put_rest : (node : ℕ) → node < length on → node ≢ item → at put_next node ≡ at next node
  put_rest node h apart = put.after_rest node (λ e. omega (arith, h, e)) apart

  put_alike : (node : ℕ) → node < length on + lists → list_of_node (set on item (Some list)) (at put_next node) ≡ list_of_node (set on item (Some list)) node
  put_alike node h = elim (cases_eq node item) [
    | inl is ↦
        ap (λ n. list_of_node (set on item (Some list)) (at put_next n)) is ∙ ap (list_of_node (set on item (Some list))) put.after_other
        ∙ node_set_other on item (at next (length on + list)) (Some list) first_apart ∙ ok.alike (length on + list) head_node ∙ node_of_head on list
        ∙ sym (node_set_same on item (Some list) within) ∙ ap (list_of_node (set on item (Some list))) (sym is)
    | inr apart ↦ elim (cases_eq node (length on + list)) [
      | inl is ↦
          ap (λ n. list_of_node (set on item (Some list)) (at put_next n)) is ∙ ap (list_of_node (set on item (Some list))) after_head
          ∙ node_set_same on item (Some list) within ∙ sym (node_of_head on list) ∙ ap (list_of_node on) (sym is) ∙ sym (node_set_other on item node (Some list) apart)
      | inr other ↦
          ap (list_of_node (set on item (Some list))) (put.after_rest node other apart)
          ∙ node_set_other on item (at next node) (Some list) (λ e. apart (to_item node h e)) ∙ ok.alike node h ∙ sym (node_set_other on item node (Some list) apart)
    ]
  ]

  abbrev put_rank : ℕ → ℕ
  put_rank node = cond (nat_eq node item) (ok.rank (at next (length on + list)) + 1) (ok.rank node)

  rank_item : put_rank item ≡ ok.rank (at next (length on + list)) + 1
  rank_item = ap (λ b. cond b (ok.rank (at next (length on + list)) + 1) (ok.rank item)) (eq-eqb item item refl)

  rank_rest : (node : ℕ) → node ≢ item → put_rank node ≡ ok.rank node
  rank_rest node apart = ap (λ b. cond b (ok.rank (at next (length on + list)) + 1) (ok.rank node)) (ne_eqb node item apart)

  put_falls : (node l : ℕ) → node < length on → get_or (set on item (Some list)) node None ≡ Some l → (at put_next node ≡ length on + l) ⊎ (put_rank (at put_next node) < put_rank node)
  put_falls node l h e = elim (cases_eq node item) [
    | inl is ↦
        let below : put_rank (at put_next item) < put_rank item =
        let to : put_rank (at put_next item) ≡ ok.rank (at next (length on + list)) = ap put_rank put.after_other ∙ rank_rest (at next (length on + list)) first_apart in
        omega (arith, to, rank_item) in
        inr (subst (λ n. put_rank (at put_next n) < put_rank n) (sym is) below)
    | inr apart ↦
        let was : get_or on node None ≡ Some l = sym (get_or-set_other on item node (Some list) None apart) ∙ e in
        elim (ok.falls node l h was) [
          | inl head ↦ inl (put_rest node h apart ∙ head)
          | inr less ↦
              let to : put_rank (at put_next node) ≡ ok.rank (at next node) = ap put_rank (put_rest node h apart) ∙ rank_rest (at next node) (λ e. apart (to_item node (omega (arith, h)) e)) in
              inr (omega (arith, to, rank_rest node apart, less))
        ]
  ]

  pub put_ringed : IsRinged (set (set next (length on + list) (at next item)) item (at next (length on + list))) (set (set previous (at next item) (length on + list)) (at next (length on + list)) item) (set on item (Some list)) lists
  put_ringed = record {
    nexts = put.nexts ∙ ok.nexts ∙ ap (λ n. n + lists) (sym (length-set on item (Some list)));
    previouses = put.previouses ∙ ok.previouses ∙ ap (λ n. n + lists) (sym (length-set on item (Some list)));
    next_within = λ node h. subst (λ n. at put_next node < n + lists) (sym (length-set on item (Some list))) (splice_next_within next previous on lists ok (length on + list) item head_node put_item_node put_next put_previous put node (omega (arith, length-set on item (Some list), h)));
    previous_within = λ node h. subst (λ n. at put_previous node < n + lists) (sym (length-set on item (Some list))) (splice_previous_within next previous on lists ok (length on + list) item head_node put_item_node put_next put_previous put node (omega (arith, length-set on item (Some list), h)));
    back = λ node h. splice_back next previous on lists ok (length on + list) item head_node put_item_node put_next put_previous put node (omega (arith, length-set on item (Some list), h));
    forth = λ node h. splice_forth next previous on lists ok (length on + list) item head_node put_item_node put_next put_previous put node (omega (arith, length-set on item (Some list), h));
    alike = λ node h. put_alike node (omega (arith, length-set on item (Some list), h));
    alone = λ node h e. elim (cases_eq node item) [
      | inl is ↦ absurd (let clash : Some list ≡ None = sym (get_or-set_same on item (Some list) None within) ∙ ap (λ n. get_or (set on item (Some list)) n None) (sym is) ∙ e in cc)
      | inr apart ↦
          let h2 : node < length on = omega (arith, length-set on item (Some list), h) in
          put_rest node h2 apart ∙ ok.alone node h2 (sym (get_or-set_other on item node (Some list) None apart) ∙ e)
    ];
    listed = λ node l h e. elim (cases_eq node item) [
      | inl is ↦
          let same : list ≡ l = same_Some _ _ (sym (get_or-set_same on item (Some list) None within) ∙ ap (λ n. get_or (set on item (Some list)) n None) (sym is) ∙ e) in
          omega (arith, same, list_within)
      | inr apart ↦ ok.listed node l (omega (arith, length-set on item (Some list), h)) (sym (get_or-set_other on item node (Some list) None apart) ∙ e)
    ];
    rank = put_rank;
    falls = λ node l h e.
        subst (λ n. (at put_next node ≡ n + l) ⊎ (put_rank (at put_next node) < put_rank node)) (sym (length-set on item (Some list)))
        (put_falls node l (omega (arith, length-set on item (Some list), h)) e);
  }

-- ---- an item comes from its list to the front of a list

set_over : (xs : List ℕ) (i j a b c : ℕ) → i ≢ j → set (set (set xs i a) j b) i c ≡ set (set xs j b) i c
set_over [] i j a b c apart = refl
set_over (x ∷ xs) zero zero a b c apart = absurd (apart refl)
set_over (x ∷ xs) zero (suc j) a b c apart = refl
set_over (x ∷ xs) (suc i) zero a b c apart = ap (λ ys. b ∷ ys) (set-set xs i a c)
set_over (x ∷ xs) (suc i) (suc j) a b c apart = ap (λ ys. x ∷ ys) (set_over xs i j a b c (λ e. apart (ap suc e)))

module _ (next previous : List ℕ) (on : List (Option ℕ)) (lists item list : ℕ) (ok : IsRinged next previous on lists) (within : item < length on) (list_within : list < lists) where
  abbrev moved_head : ℕ
  moved_head = length on + list

  abbrev cut_next : List ℕ
  cut_next = unlinked_next next previous item

  abbrev cut_previous : List ℕ
  cut_previous = unlinked_previous next previous item

  -- the item's own node after it has left
  cut_self : at next (at previous item) ≡ item
  cut_self = ok.forth item (omega (arith, within))

  abbrev alone_next : List ℕ
  alone_next = set cut_next item item

  abbrev alone_previous : List ℕ
  alone_previous = set cut_previous item item

  alone_ringed : IsRinged alone_next alone_previous (set on item None) lists
  alone_ringed = subst (λ n. IsRinged (set cut_next item n) (set cut_previous n item) (set on item None) lists) cut_self (left_ringed next previous on lists item ok within)

  pub moved_first_within : at cut_next (length on + list) < length previous
  moved_first_within =
      let same : at alone_next (length on + list) ≡ at cut_next (length on + list) = get_or-set_other cut_next item (length on + list) item 0 (λ e. omega (arith, within, e)) in
      let there = alone_ringed.next_within (length on + list) (omega (arith, list_within, length-set on item (let o : Option ℕ = None in o))) in
      omega (arith, same, there, ok.previouses, length-set on item (let o : Option ℕ = None in o))

  pub moved_ringed : IsRinged (linked_next cut_next item (length on + list)) (linked_previous cut_next cut_previous item (length on + list)) (set on item (Some list)) lists
  moved_ringed =
      let none : Option ℕ = None in
      let head = length on + list in
      let apart : head ≢ item = λ e. omega (arith, within, e) in
      let many : length (set on item none) ≡ length on = length-set on item none in
      let put = put_ringed alone_next alone_previous (set on item none) lists item list alone_ringed (omega (arith, many, within)) (get_or-set_same on item none None within) list_within in
      let self : at alone_next item ≡ item = get_or-set_same cut_next item item 0 (omega (arith, length-set next (at previous item) (at next item), ok.nexts, within)) in
      let first : at alone_next head ≡ at cut_next head = get_or-set_other cut_next item head item 0 apart in
      let by_head : IsRinged (set (set alone_next head (at alone_next item)) item (at alone_next head)) (set (set alone_previous (at alone_next item) head) (at alone_next head) item) (set (set on item none) item (Some list)) lists =
      subst (λ n. IsRinged (set (set alone_next (n + list) (at alone_next item)) item (at alone_next (n + list))) (set (set alone_previous (at alone_next item) (n + list)) (at alone_next (n + list)) item) (set (set on item none) item (Some list)) lists) many put in
      let by_self : IsRinged (set (set alone_next head item) item (at alone_next head)) (set (set alone_previous item head) (at alone_next head) item) (set (set on item none) item (Some list)) lists =
      subst (λ n. IsRinged (set (set alone_next head n) item (at alone_next head)) (set (set alone_previous n head) (at alone_next head) item) (set (set on item none) item (Some list)) lists) self by_head in
      let by_first : IsRinged (set (set alone_next head item) item (at cut_next head)) (set (set alone_previous item head) (at cut_next head) item) (set (set on item none) item (Some list)) lists =
      subst (λ n. IsRinged (set (set alone_next head item) item n) (set (set alone_previous item head) n item) (set (set on item none) item (Some list)) lists) first by_self in
      let by_next : IsRinged (linked_next cut_next item head) (set (set alone_previous item head) (at cut_next head) item) (set (set on item none) item (Some list)) lists =
      subst (λ xs. IsRinged xs (set (set alone_previous item head) (at cut_next head) item) (set (set on item none) item (Some list)) lists) (set_over cut_next item head item item (at cut_next head) (λ e. apart (sym e))) by_first in
      let by_previous : IsRinged (linked_next cut_next item head) (linked_previous cut_next cut_previous item head) (set (set on item none) item (Some list)) lists =
      subst (λ xs. IsRinged (linked_next cut_next item head) (set xs (at cut_next head) item) (set (set on item none) item (Some list)) lists) (set-set cut_previous item item head) by_next in
      subst (λ xs. IsRinged (linked_next cut_next item head) (linked_previous cut_next cut_previous item head) xs lists) (set-set on item none (Some list)) by_previous

-- ---- what the first item says of a list

module _ (next previous : List ℕ) (on : List (Option ℕ)) (lists list : ℕ) (ok : IsRinged next previous on lists) (list_within : list < lists) where
  first_node : length on + list < length on + lists
  first_node = omega (arith, list_within)

  -- where the head comes before itself, nothing comes before it
  nothing_before : at next (length on + list) ≡ length on + list → (node : ℕ) → node < length on → at next node ≡ length on + list → ⊥
  nothing_before empty node h e =
      let same : node ≡ length on + list = sym (ok.back node (omega (arith, h))) ∙ ap (at previous) (e ∙ sym empty) ∙ ok.back (length on + list) first_node in
      omega (arith, h, same)

  none_below : at next (length on + list) ≡ length on + list → (n node : ℕ) → ok.rank node < n → node < length on → get_or on node None ≡ Some list → ⊥
  none_below empty zero node below h e = omega (arith, below)
  none_below empty (suc n) node below h e =
      let to = ok.next_within node (omega (arith, h)) in
      let of_list : list_of_node on (at next node) ≡ Some list = ok.alike node (omega (arith, h)) ∙ node_item on node h ∙ e in
      elim (ok.falls node list h e) [
        | inl head ↦ nothing_before empty node h head
        | inr less ↦ elim (cases_lt (at next node) (length on)) [
          | inl inside ↦ none_below empty n (at next node) (omega (arith, less, below)) inside (sym (node_item on (at next node) inside) ∙ of_list)
          | inr outside ↦ nothing_before empty node h (head_is on (at next node) list outside of_list)
        ]
      ]

  pub first_none : at next (length on + list) ≡ length on + list → (item : ℕ) → item < length on → get_or on item None ≢ Some list
  first_none empty item h e = none_below empty (ok.rank item + 1) item (omega arith) h e

  pub first_some : at next (length on + list) ≢ length on + list → (at next (length on + list) < length on) × (get_or on (at next (length on + list)) None ≡ Some list)
  first_some some =
      let of_list : list_of_node on (at next (length on + list)) ≡ Some list = ok.alike (length on + list) first_node ∙ node_of_head on list in
      let inside : at next (length on + list) < length on = elim (cases_lt (at next (length on + list)) (length on)) [
        | inl h ↦ h
        | inr h ↦ absurd (some (head_is on (at next (length on + list)) list h of_list))
      ] in
      (inside, sym (node_item on (at next (length on + list)) inside) ∙ of_list)

-- ---- one more list, and one less

got_before : (xs : List ℕ) (x node : ℕ) → node < length xs → at (xs ++ x ∷ []) node ≡ at xs node
got_before (y ∷ xs) x zero h = refl
got_before (y ∷ xs) x (suc node) h = got_before xs x node (omega arith)
got_before [] x node h = absurd (omega arith)

got_last : (xs : List ℕ) (x : ℕ) → at (xs ++ x ∷ []) (length xs) ≡ x
got_last [] x = refl
got_last (y ∷ xs) x = got_last xs x

module _ (next previous : List ℕ) (on : List (Option ℕ)) (lists : ℕ) (ok : IsRinged next previous on lists) where
  -- a node that was there, or the new head
  node_cases : (node : ℕ) → node < length on + (lists + 1) → (node < length on + lists) ⊎ (node ≡ length on + lists)
  node_cases node h = elim (cases_lt node (length on + lists)) [
    | inl was ↦ inl was
    | inr last ↦ inr (omega (arith, h, last))
  ]

  more_next : (node : ℕ) → node < length on + lists → at (next ++ (length on + lists) ∷ []) node ≡ at next node
  more_next node h = got_before next (length on + lists) node (omega (arith, h, ok.nexts))

  more_previous : (node : ℕ) → node < length on + lists → at (previous ++ (length on + lists) ∷ []) node ≡ at previous node
  more_previous node h = got_before previous (length on + lists) node (omega (arith, h, ok.previouses))

  head_next : at (next ++ (length on + lists) ∷ []) (length on + lists) ≡ length on + lists
  head_next = ap (at (next ++ (length on + lists) ∷ [])) (sym ok.nexts) ∙ got_last next (length on + lists)

  head_previous : at (previous ++ (length on + lists) ∷ []) (length on + lists) ≡ length on + lists
  head_previous = ap (at (previous ++ (length on + lists) ∷ [])) (sym ok.previouses) ∙ got_last previous (length on + lists)

  pub more_ringed : IsRinged (next ++ (length on + lists) ∷ []) (previous ++ (length on + lists) ∷ []) on (lists + 1)
  more_ringed = record {
    nexts = omega (arith, length-append next ((length on + lists) ∷ []), ok.nexts);
    previouses = omega (arith, length-append previous ((length on + lists) ∷ []), ok.previouses);
    next_within = λ node h. elim (node_cases node h) [
      | inl was ↦ let same = more_next node was in let old = ok.next_within node was in omega (arith, same, old)
      | inr last ↦ let same : at (next ++ (length on + lists) ∷ []) node ≡ length on + lists = ap (at (next ++ (length on + lists) ∷ [])) last ∙ head_next in omega (arith, same)
    ];
    previous_within = λ node h. elim (node_cases node h) [
      | inl was ↦ let same = more_previous node was in let old = ok.previous_within node was in omega (arith, same, old)
      | inr last ↦ let same : at (previous ++ (length on + lists) ∷ []) node ≡ length on + lists = ap (at (previous ++ (length on + lists) ∷ [])) last ∙ head_previous in omega (arith, same)
    ];
    back = λ node h. elim (node_cases node h) [
      | inl was ↦ ap (at (previous ++ (length on + lists) ∷ [])) (more_next node was) ∙ more_previous (at next node) (ok.next_within node was) ∙ ok.back node was
      | inr last ↦ ap (λ n. at (previous ++ (length on + lists) ∷ []) (at (next ++ (length on + lists) ∷ []) n)) last ∙ ap (at (previous ++ (length on + lists) ∷ [])) head_next ∙ head_previous ∙ sym last
    ];
    forth = λ node h. elim (node_cases node h) [
      | inl was ↦ ap (at (next ++ (length on + lists) ∷ [])) (more_previous node was) ∙ more_next (at previous node) (ok.previous_within node was) ∙ ok.forth node was
      | inr last ↦ ap (λ n. at (next ++ (length on + lists) ∷ []) (at (previous ++ (length on + lists) ∷ []) n)) last ∙ ap (at (next ++ (length on + lists) ∷ [])) head_previous ∙ head_next ∙ sym last
    ];
    alike = λ node h. elim (node_cases node h) [
      | inl was ↦ ap (list_of_node on) (more_next node was) ∙ ok.alike node was
      | inr last ↦ ap (λ n. list_of_node on (at (next ++ (length on + lists) ∷ []) n)) last ∙ ap (list_of_node on) head_next ∙ ap (list_of_node on) (sym last)
    ];
    alone = λ item h e. more_next item (omega (arith, h)) ∙ ok.alone item h e;
    listed = λ item list h e. let was = ok.listed item list h e in omega (arith, was);
    rank = ok.rank;
    falls = λ item list h e. subst (λ n. (n ≡ length on + list) ⊎ (ok.rank n < ok.rank item)) (sym (more_next item (omega (arith, h)))) (ok.falls item list h e);
  }

module _ (next previous : List ℕ) (on : List (Option ℕ)) (lists : ℕ) (ok : IsRinged next previous on lists) (some : 0 < lists) (none : (item : ℕ) → item < length on → get_or on item None ≢ Some (lists - 1)) where
  last_within : lists - 1 < lists
  last_within = omega (arith, some)

  last_node : length on + (lists - 1) < length on + lists
  last_node = omega (arith, some)

  -- the last head is alone
  last_next : at next (length on + (lists - 1)) ≡ length on + (lists - 1)
  last_next = elim (cases_eq (at next (length on + (lists - 1))) (length on + (lists - 1))) [
    | inl e ↦ e
    | inr apart ↦ absurd (let first = first_some next previous on lists (lists - 1) ok last_within apart in none (at next (length on + (lists - 1))) first.0 first.1)
  ]

  last_previous : at previous (length on + (lists - 1)) ≡ length on + (lists - 1)
  last_previous = ap (at previous) (sym last_next) ∙ ok.back (length on + (lists - 1)) last_node

  less_node : (node : ℕ) → node < length on + (lists - 1) → node < length on + lists
  less_node node h = omega (arith, h)

  less_next : (node : ℕ) → node < length on + (lists - 1) → at (take (length next - 1) next) node ≡ at next node
  less_next node h = get_or-take (length next - 1) next node 0 (omega (arith, h, ok.nexts))

  less_previous : (node : ℕ) → node < length on + (lists - 1) → at (take (length previous - 1) previous) node ≡ at previous node
  less_previous node h = get_or-take (length previous - 1) previous node 0 (omega (arith, h, ok.previouses))

  next_stays : (node : ℕ) → node < length on + (lists - 1) → at next node < length on + (lists - 1)
  next_stays node h =
      let within = ok.next_within node (less_node node h) in
      let apart : at next node ≢ length on + (lists - 1) = λ e.
      let is : node ≡ length on + (lists - 1) = sym (ok.back node (less_node node h)) ∙ ap (at previous) e ∙ last_previous in omega (arith, is, h) in
      omega (arith, within, apart)

  previous_stays : (node : ℕ) → node < length on + (lists - 1) → at previous node < length on + (lists - 1)
  previous_stays node h =
      let within = ok.previous_within node (less_node node h) in
      let apart : at previous node ≢ length on + (lists - 1) = λ e.
      let is : node ≡ length on + (lists - 1) = sym (ok.forth node (less_node node h)) ∙ ap (at next) e ∙ last_next in omega (arith, is, h) in
      omega (arith, within, apart)

  pub less_ringed : IsRinged (take (length next - 1) next) (take (length previous - 1) previous) on (lists - 1)
  less_ringed = record {
    nexts = length-take-le (length next - 1) next (omega arith) ∙ omega (arith, ok.nexts, some);
    previouses = length-take-le (length previous - 1) previous (omega arith) ∙ omega (arith, ok.previouses, some);
    next_within = λ node h. let same = less_next node h in let stays = next_stays node h in omega (arith, same, stays);
    previous_within = λ node h. let same = less_previous node h in let stays = previous_stays node h in omega (arith, same, stays);
    back = λ node h. ap (at (take (length previous - 1) previous)) (less_next node h) ∙ less_previous (at next node) (next_stays node h) ∙ ok.back node (less_node node h);
    forth = λ node h. ap (at (take (length next - 1) next)) (less_previous node h) ∙ less_next (at previous node) (previous_stays node h) ∙ ok.forth node (less_node node h);
    alike = λ node h. ap (list_of_node on) (less_next node h) ∙ ok.alike node (less_node node h);
    alone = λ item h e. less_next item (omega (arith, h)) ∙ ok.alone item h e;
    listed = λ item list h e.
        let was = ok.listed item list h e in
        let apart : list ≢ lists - 1 = λ is. none item h (e ∙ ap (λ n. Some n) is) in
        omega (arith, was, apart);
    rank = ok.rank;
    falls = λ item list h e. subst (λ n. (n ≡ length on + list) ⊎ (ok.rank n < ok.rank item)) (sym (less_next item (omega (arith, h)))) (ok.falls item list h e);
  }

-- ---- lists without items

nothing_on : (items item list : ℕ) → get_or (replicate items None) item None ≡ Some list → ⊥
nothing_on items item list e = elim (cases_lt item items) [
  | inl h ↦ let clash : None ≡ Some list = sym (get_or-replicate items item None None h) ∙ e in cc
  | inr h ↦ let clash : None ≡ Some list = sym (get_or_past (replicate items None) item None (omega (arith, h, length-replicate items (let o : Option ℕ = None in o)))) ∙ e in cc
]

-- each node is before itself
abbrev pub IsAlone : List ℕ → ℕ → Type 0
IsAlone xs nodes = (node : ℕ) → node < nodes → at xs node ≡ node

pub open_ringed : (next previous : List ℕ) (items lists : ℕ) → IsAlone next (items + lists) → IsAlone previous (items + lists) → length next ≡ items + lists → length previous ≡ items + lists → IsRinged next previous (replicate items None) lists
open_ringed next previous items lists nexts previouses many_next many_previous =
    let none : Option ℕ = None in
    let many : length (replicate items none) ≡ items = length-replicate items none in
    let within : (node : ℕ) → node < length (replicate items none) + lists → node < items + lists = λ node h. omega (arith, h, many) in
    record {
      nexts = omega (arith, many_next, many);
      previouses = omega (arith, many_previous, many);
      next_within = λ node h. let same = nexts node (within node h) in omega (arith, same, h);
      previous_within = λ node h. let same = previouses node (within node h) in omega (arith, same, h);
      back = λ node h. ap (at previous) (nexts node (within node h)) ∙ previouses node (within node h);
      forth = λ node h. ap (at next) (previouses node (within node h)) ∙ nexts node (within node h);
      alike = λ node h. ap (list_of_node (replicate items none)) (nexts node (within node h));
      alone = λ item h e. nexts item (omega (arith, h, many));
      listed = λ item list h e. absurd (nothing_on items item list e);
      rank = λ n. n;
      falls = λ item list h e. absurd (nothing_on items item list e);
    }
