-- `write` fills an empty place. Assumes `Logic`.
use mathlib.Core.Path.{◌≡◌, refl, sym, subst, ◌∙◌}
use Prim.Native.Nat.{ℕ, ◌+◌, ◌*◌, ◌<◌, ◌^◌}
use mathlib.Core.List.{List, [], ◌∷◌, ◌++◌}
use seplogic.Ra.Ura.{Ura}
use base.Fraction.{full_share}
use mir.Syntax.{Fn, w64}
use mir.MapTy.{inst_fn}
use mir.Val.{Val, vptr, vint}
use base.Logic.{SProp, ent}
use base.Fml.{Lft, Share, fat}
use prog.Wp.{Env, Calls, Loops, WpFn, Tables}
use types.Logic.{Logic}
use contract.Running.{tables_of}
use types.Kit.{use3, ⋆, ‵, at_ret, ◌$◌, ◌∵◌, !, qed, by, move, keep, use2, rewrite}
use types.Part.{whole, sub}
use types.Run.{init, stop, fld, unit_lit, of_opd, assigns_last, first, blocks, exec, returns, enter}
use types.ByLocal.{alloc_all, pass_all, free_all, look_at, get, get_in, through, sets, env}
use denote.RattleType.{RattleType}
use denote.Param.{layout}
use denote.RawPtr.{Ptr}
use denote.Ref.{MutBor}
use denote.Steps.{opens, closes}
use Rattle.std.proofs.VecSteps.Shapes.{after}
use Rattle.std.proofs.RcSteps.{Good, word, word-Good}
use lib.ListN.{length}
use types.Run.{bin, size_lit}
use types.ByLocal.{take_at, give_at}
use denote.Builtin.{usize}
use Rattle.vale_page.specs.Cell.{Empty, Filled}
use Rattle.vale_page.proofs.Memory.{args2, st, Cs}
use Rattle.std.proofs.mem.Param.{El, R, elτ}
use Rattle.std.proofs.RawLayout.{as_written}
use Rattle.vale_page.specs.Ownership.{cell}
use Rattle.vale_page.proofs.Memory.{Bs, value_in, tells}
use Rattle.vale_page.proofs.ColumnWalks.{spans, around, method_meets, Had, cell_taken, with_cell, column_made, CanPut, puts, putting, Put, put_ends, put_meets}
use Rattle.vale_page.specs.contracts.column.Column.write.Key.{name as #self}
use Rattle.vale_page.proofs.column.Column.write.Statement as stated
use Rattle.vale_page.proofs.column.Column.write.Code as code

module _ (E : El) (S : RattleType) where
  abbrev function : Fn
  function = inst_fn (args2 E S) code.function

module _ (E : El) (S : RattleType) {M : Type 1} {𝓤 : Ura M} (𝓛 : Logic 𝓤) (C : Calls 𝓤 𝓛.H) (Λ : Loops 𝓤 𝓛.H) (κ : Lft) (q : Share) (self : MutBor (Cs E S).Denot) (base : (Bs E).Denot) (index : (usize).Denot) (item : (R E).Denot) (us0 us1 us2 us3 : List Val) where
  open 𝓛 use {H}

  abbrev rb : ℕ
  rb = self.ref_ptr.0

  abbrev ro : ℕ
  ro = self.ref_ptr.1

  abbrev d : (Cs E S).Denot
  d = self.now

  abbrev Post : Val → SProp 𝓤
  Post = Put E S (R E) Filled (λ _. tt) (λ _ _. refl) 𝓛 κ q self base index item us0 us1 us2 us3

  walk : us0 ≡ vptr rb ro ∷ [] → CanPut E S (R E) Filled (λ _. tt) (λ _ _. refl) d base index → index < 2 ^ 64 → (v_item : Val) → Good (layout (R E)) v_item
      → ent 𝓤 (⋆ 𝓛 (‵ ((R E).own_val item (v_item ∷ [])) ∷ Had E S 𝓤 κ q self)) (WpFn 𝓤 H C Λ (function E S) (vptr rb ro ∷ word base.ptr ∷ vint w64 index ∷ v_item ∷ []) Post)
  walk passed asked fits_index v_item good_item =
      let within = asked.1 in
      let new : (Cs E S).Denot = with_cell E S d index (Filled item) in
      qed 𝓛 (‵ ((R E).own_val item (v_item ∷ [])) ∷ Had E S 𝓤 κ q self) ∵ move ! (1 ∷ 2 ∷ 3 ∷ 0 ∷ []) $
      enter ! C Λ (function E S) (vptr rb ro ∷ word base.ptr ∷ vint w64 index ∷ v_item ∷ []) _ $ alloc_all ! (λ l. pass_all ! refl ((tt, tt), (word-Good [] base.ptr, ((tt, record { fits = fits_index }), (good_item, tt)))) $
      let En : Env 𝓤 H = env (function E S).locals l in
      opens ! tt (Cs E S) {h = d} rb ro (λ vs. move ! (1 ∷ []) $ cell_taken E S ! d vs index Empty within asked.2 (λ b o e sized small.
      let s = st S in let fit = spans (length d.cells) index s within small in
      take_at ! 2 $ rewrite ! 0 (λ (p : Ptr). ‵ (fat full_share (layout (Bs E)) (l 2) 0 (word p))) (asked.0 ∙ e) refl $ give_at ! 2 $ first ! $ blocks ! $
      sets ! (of_opd ! (get_in ! (fld ! refl (stop !)) (sub ! 0 refl (whole !)))) refl (tt, tt) $
      sets ! (bin ! (get ! refl) (size_lit ! (record { fits = fit.0 })) (record { fits = fit.1 })) refl (tt, record { fits = fit.1 }) $
      sets ! (bin ! (get ! refl) (get ! refl) tt) refl (tt, tt) $
      sets ! (of_opd ! (get ! refl)) refl (tt, tt) $
      as_written ! (elτ E) b (index * s + o) $
      -- [the room; the other places; the mark; its cell; the open borrow; obs; auth; what the item owns]
      sets ! (of_opd ! (get ! refl)) refl good_item $ assigns_last ! (of_opd ! (get ! refl)) (through ! refl (stop !)) (init ! 0 refl good_item) $
      exec ! C Λ En (after 1 (function E S).body) (at_ret En Post) $ sets ! (of_opd ! (unit_lit !)) refl (tt, tt) $
      move ! (0 ∷ 7 ∷ []) $ use2 𝓛 (‵ (cell (R E) b (index * s + o) (Filled item))) (value_in 0 E.row E.laws 𝓛 item b (index * s + o) v_item) $
      use3 𝓛 (‵ ((Cs E S).own_val new vs)) (column_made E S 𝓛 d vs index (Filled item) b o within e sized small) $ move ! (1 ∷ 0 ∷ []) $ closes ! tt (Cs E S) new vs rb ro $
      returns ! (look_at ! 0 refl) $ free_all ! refl $ keep ! (0 ∷ 1 ∷ 2 ∷ []) $ by ! (put_ends E S (R E) Filled (λ _. tt) (λ _ _. refl) 𝓛 κ q self base index item us0 us1 us2 us3 passed new (refl, refl)))))

  entry : us0 ≡ vptr rb ro ∷ [] → CanPut E S (R E) Filled (λ _. tt) (λ _ _. refl) d base index → index < 2 ^ 64
      → ent 𝓤 (⋆ 𝓛 (‵ ((R E).own_val item us3) ∷ Had E S 𝓤 κ q self)) (WpFn 𝓤 H C Λ (function E S) (vptr rb ro ∷ word base.ptr ∷ vint w64 index ∷ us3 ++ []) Post)
  entry passed asked fits_index =
      qed 𝓛 (‵ ((R E).own_val item us3) ∷ Had E S 𝓤 κ q self) ∵ tells E.row E.laws ! item us3 (λ v_item e good_item.
      by ! (subst (λ (ws : List Val). ent 𝓤 (⋆ 𝓛 (‵ ((R E).own_val item (v_item ∷ [])) ∷ Had E S 𝓤 κ q self)) (WpFn 𝓤 H C Λ (function E S) (vptr rb ro ∷ word base.ptr ∷ vint w64 index ∷ ws ++ []) Post)) (sym e) (walk passed asked fits_index v_item good_item)))

pub write_spec : {M : Type 1} → stated.statement M
unfolding tables_of
write_spec 𝓤 𝓛 𝓜 𝓡 wired X S LX LS y =
    let E : El = record { row = X; laws = LX } in
    let 𝓣 : Tables 𝓤 𝓛.H = around 𝓛 𝓜 𝓡 in
    method_meets 𝓛 𝓜 𝓡 (putting E S (R E) Filled (λ _. tt) (λ _ _. refl)) (puts E S (R E) Filled (λ _. tt) (λ _ _. refl) 𝓛) (#self (args2 E S)) (function E S) (X.lives, (S.lives, tt)) (code.unfolded 𝓤 𝓛.H 𝓜 𝓡 wired (X, (S, tt)))
    (put_meets E S (R E) Filled (λ _. tt) (λ _ _. refl) 𝓛 𝓣 (function E S) (entry E S 𝓛 𝓣.C 𝓣.Λ)) ((y.0.0, y.0.1, tt, y.0.3, y.0.4), y.1)
