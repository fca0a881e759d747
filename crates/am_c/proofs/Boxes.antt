-- The parts of a box, at any type and allocator: their machine value, and how they are taken apart and made. Assumes `Logic`.
use Rattle.std.proofs.Common.{ℕ, List, [], ◌∷◌, ◌++◌, ◌≡◌, refl, ap, ◌∙◌}
use Rattle.std.proofs.alloc.Calls.{Al, Fits, handle_tells}
use Rattle.std.proofs.ResultValues.{and_tt}
use Rattle.std.specs.Box.Ownership.{box_owns}
use Rattle.std.specs.declared.alloc.Allocator.{Ghosts}
use base.Logic.{fst∗, never}
use mathlib.Core.Bool.{true, ◌&&◌}
use lib.Dec.{T}
use mir.Syntax.{tnil, dnil, impl}
use mir.Raw.{raw as bare}
use mir.Val.{Val, vptr, vcons, vnil, vstruct, of_list, has_ty, WT}
use seplogic.Ra.Ura.{Ura}
use types.Logic.{Logic, sem}
use types.Kit.{Goal, Item, Seq, Step, step, ‵, ◌$◌, move, drop, fsplit, fjoin, fpick, fpack, feq_i, feq_l}
use denote.Memory.{lone}
use denote.Param.{layout}
use denote.Param.Laws.{Laws}
use denote.RattleType.{RattleType, Valss}
use denote.RawPtr.{Ptr, RawPtr, block_ptr, null_ptr, ptr_val, in_a_block}
use denote.Steps.{nothing}
use denote.Struct.Owning.{shape}
use denote.Struct.Struct.{within}
use Rattle.am_c.specs.contracts.parts.RawBox as parts

-- their machine value, of the allocator's and of a block
abbrev pub parts_val : Val → ℕ → ℕ → Val
parts_val hv b o = vstruct (vcons (vptr b o) (vcons hv vnil))

module _ (R Z : RattleType) (L : Laws Z) (g : Ghosts Z.Denot) where
  abbrev pub al : Al
  al = record { row = Z; laws = L; g = g; d = impl [] tnil dnil; drops = impl [] tnil dnil }

  abbrev pub Parts : RattleType
  Parts = parts.the_row R Z g

  pub parts_value_fits_type : (hv : Val) (b o : ℕ) → Fits al hv → T (has_ty (layout Z) hv && true) × WT (parts_val hv b o)
  parts_value_fits_type hv b o fa = (and_tt (has_ty (layout Z) hv) fa.0, (tt, (fa.1, tt)))

  module _ {M : Type 1} {𝓤 : Ura M} {𝓛 : Logic 𝓤} {K : Type 0} {Γ : List (Item 𝓤)} {G : Goal 𝓤 𝓛.H} where
    pub parts_value_is_taken_apart : K → (d : Parts.Denot) (vs : List Val)
        → ((b o : ℕ) (hv : Val) → d.ptr ≡ block_ptr b o → vs ≡ parts_val hv b o ∷ [] → Fits al hv
        → Seq K 𝓛 (‵ (box_owns (g.dealloc_token d.alloc) R (block_ptr b o) d.value) ∷ ‵ (Z.own_val d.alloc (hv ∷ [])) ∷ Γ) G)
        → Seq K 𝓛 (‵ (Parts.own_val d vs) ∷ Γ) G
    parts_value_is_taken_apart t d vs k =
        fsplit t $ fpick t (λ uss. fsplit t $ feq_l t (λ ev. fsplit t $ feq_l t (λ ep. fsplit t $ handle_tells al t d.alloc uss.1.0 (λ hv eh fa.
        move t (1 ∷ []) $ drop t $ move t (1 ∷ []) $
        let none_at_null = fst∗ 𝓤 (never 𝓤) (sem 𝓛 (g.dealloc_token d.alloc (bare (lone R.mir)) null_ptr)) in
        in_a_block t d.ptr (λ q. box_owns (g.dealloc_token d.alloc) R q d.value) none_at_null (λ b o at.
        k b o hv at (ev ∙ (λ i. vstruct (of_list ((ep ∙ ap (λ (q : Ptr). ptr_val q ∷ []) at) i ++ (eh i ++ []))) ∷ [])) fa)))))

    pub parts_value_is_put_together : K → (b o : ℕ) (hv : Val) (a : Z.Denot) (x : R.Denot)
        → Step K 𝓛 (‵ (Parts.own_val (record { ptr = block_ptr b o; alloc = a; value = x }) (parts_val hv b o ∷ [])) ∷ Γ) G
        (‵ (box_owns (g.dealloc_token a) R (block_ptr b o) x) ∷ ‵ (Z.own_val a (hv ∷ [])) ∷ Γ) G
    parts_value_is_put_together t b o hv a x = step (λ s. let w = parts_val hv b o in
        let fields = within (shape (parts.the_type R Z g)) (block_ptr b o, (a, tt)) (w ∷ []) in
        move t (1 ∷ []) $ nothing t $ move t (1 ∷ 0 ∷ []) $ fjoin t $ feq_i t (List Val) (vptr b o ∷ []) (vptr b o ∷ []) refl $ fjoin t $
        feq_i t (List Val) (w ∷ []) (w ∷ []) refl $ fjoin t $ fpack t (Valss (RawPtr ∷ Z ∷ [])) fields (vptr b o ∷ [], (hv ∷ [], tt)) $ fjoin t $ s)
