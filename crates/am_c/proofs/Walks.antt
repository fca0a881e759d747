-- What the three walks of a handle share: the rows, their machine values, and how each is taken apart and made. Assumes `Logic`.
use Rattle.std.proofs.Common.{ℕ, List, [], ◌∷◌, ◌++◌, ◌≡◌, refl, ◌∙◌}
use Rattle.std.specs.Prelude.{Option, Some, None}
use Rattle.std.proofs.alloc.Calls.{Al}
use Rattle.std.specs.Box.Ownership.{box_owns}
use base.Fraction.{full_share}
use base.Fml.{ftrue}
use base.Logic.{ent, guard, guard_i, via, fst∗, snd∗, never, never_e}
use mir.Raw.{raw as bare}
use mir.Val.{Val, vcons, vnil, vstruct, of_list}
use seplogic.Ra.Ura.{Ura}
use types.Logic.{Logic, sem}
use types.Kit.{Goal, Item, Seq, Step, step, ‵, given, learn, use1, ◌$◌, drop, fsplit, fjoin, fpick, fpack, feq_i, feq_l}
use denote.Memory.{lone}
use denote.RattleType.{RattleType, Valss}
use contract.Monad.{fact_use}
use denote.RawPtr.{Ptr, RawPtr, block_ptr, null_ptr, ptr_val, in_a_block, lies_at, Testable}
use Rattle.std.proofs.GlobalToken.{dealloc_token-Testable}
use denote.Steps.{nothing}
use denote.Struct.Owning.{shape}
use denote.Struct.Struct.{within}
use Rattle.am_c.specs.declared.session.Session.{Session}
use Rattle.am_c.specs.contracts.session.Session.{the_row as Row}
use Rattle.std.specs.contracts.alloc.Global as heap
use Rattle.std.proofs.alloc.Global.TheLaws as heap_laws
use Rattle.std.specs.contracts.impls.GlobalAllocator.TheImpl.{ghosts}
use Rattle.am_c.proofs.Boxes as boxes
use Rattle.am_c.specs.Handles.{may_free, held}
use Rattle.am_c.specs.contracts.handle.Handle as handle

-- the parts of a session's box
abbrev pub Parts : RattleType
Parts = boxes.Parts Row heap.the_row heap_laws.the_row_laws ghosts

abbrev pub al : Al
al = boxes.al Row heap.the_row heap_laws.the_row_laws ghosts

abbrev pub Handle : RattleType
Handle = handle.the_row

abbrev pub handle_val : Ptr → Val
handle_val p = vstruct (vcons (ptr_val p) vnil)

-- a pointer whose block may be freed may be compared with null
module _ {M : Type 1} {𝓤 : Ura M} (𝓛 : Logic 𝓤) where
  pub boxed_session_is_testable : (b n : ℕ) (x : Session)
      → ent 𝓤 (sem 𝓛 (box_owns may_free Row (block_ptr b n) x)) (guard 𝓤 (Testable (block_ptr b n)) (sem 𝓛 (box_owns may_free Row (block_ptr b n) x)))
  boxed_session_is_testable b n x =
      let p = block_ptr b n in let τ = bare (lone Row.mir) in let Owned = sem 𝓛 (box_owns may_free Row p x) in
      let freed = snd∗ 𝓤 (sem 𝓛 (lies_at Row full_share p x)) (sem 𝓛 (may_free τ p)) in
      fact_use 𝓤 (Testable p) (via 𝓤 _ freed (dealloc_token-Testable 𝓛 (record { memory = record { seal = tt } }) τ p))
      (guard_i 𝓤 (Testable p) Owned)

module _ {M : Type 1} {𝓤 : Ura M} {𝓛 : Logic 𝓤} {K : Type 0} {Γ : List (Item 𝓤)} {G : Goal 𝓤 𝓛.H} where
  -- a handle is its pointer, and what it owns
  pub handle_value_is_taken_apart : K → (h : Handle.Denot) (vs : List Val)
      → (vs ≡ handle_val h.at ∷ [] → Seq K 𝓛 (‵ (held h.at h.session) ∷ Γ) G) → Seq K 𝓛 (‵ (Handle.own_val h vs) ∷ Γ) G
  handle_value_is_taken_apart t h vs k =
      fsplit t $ fpick t (λ uss. fsplit t $ feq_l t (λ ev. fsplit t $ feq_l t (λ ep. drop t $ k (ev ∙ (λ i. vstruct (of_list (ep i ++ [])) ∷ [])))))

  pub handle_value_is_put_together : K → (h : Handle.Denot) → Step K 𝓛 (‵ (Handle.own_val h (handle_val h.at ∷ [])) ∷ Γ) G (‵ (held h.at h.session) ∷ Γ) G
  handle_value_is_put_together t h = step (λ s. let w = handle_val h.at in
      nothing t $ feq_i t (List Val) (ptr_val h.at ∷ []) (ptr_val h.at ∷ []) refl $ fjoin t $ feq_i t (List Val) (w ∷ []) (w ∷ []) refl $ fjoin t $
      fpack t (Valss (RawPtr ∷ [])) (within (shape handle.the_type) (h.at, tt) (w ∷ [])) (ptr_val h.at ∷ [], tt) $ fjoin t $ s)

  -- a handle is null and closed, or it has a block, which may be compared with null
  pub held_session_null_or_box : K → (p : Ptr) (o : Option Session) → (p ≡ null_ptr → o ≡ None → Seq K 𝓛 Γ G)
      → ((b n : ℕ) (x : Session) → p ≡ block_ptr b n → o ≡ Some x → Testable (block_ptr b n) → Seq K 𝓛 (‵ (box_owns may_free Row (block_ptr b n) x) ∷ Γ) G)
      → Seq K 𝓛 (‵ (held p o) ∷ Γ) G
  held_session_null_or_box t null_ptr None shut opened = drop t $ shut refl refl
  held_session_null_or_box t (block_ptr b n) None shut opened = use1 𝓛 (given ⊥ (‵ ftrue)) (never_e 𝓤 _) $ learn t (λ z. absurd z)
  held_session_null_or_box t p (Some x) shut opened =
      let none_at_null = fst∗ 𝓤 (never 𝓤) (sem 𝓛 (may_free (bare (lone Row.mir)) null_ptr)) in
      in_a_block t p (λ q. box_owns may_free Row q x) none_at_null (λ b n at.
      use1 𝓛 (given (Testable (block_ptr b n)) (‵ (box_owns may_free Row (block_ptr b n) x))) (boxed_session_is_testable 𝓛 b n x) $ learn t (λ may. opened b n x at refl may))
