-- The machine values of a `Slot`, and its steps. Assumes `Logic`.
use Rattle.std.proofs.Common.{◌≡◌, List, [], ◌∷◌, ◌++◌, refl, sym, subst, true≢false, Option, Some, None, IsSome}
use seplogic.Ra.Ura.{Ura}
use mir.Val.{Val, vstruct, vcons, vnil, of_list}
use types.Logic.{Logic}
use types.Kit.{Item, Goal, Seq, Step, step, ‵, ◌$◌, drop, fsplit, fjoin, fpick, fpack, feq_i, feq_l}
use denote.RattleType.{RattleType, Valss}
use denote.Builtin.{RawPtr}
use denote.RawPtr.{Ptr, ptr_val}
use denote.Steps.{nothing}
use denote.Struct.Struct.{within}
use denote.Struct.Owning.{shape}
use Rattle.st_embed.specs.Servers.{EmbeddedServer}
use Rattle.tank_c.specs.Slots.{server_owns}
use Rattle.tank_c.specs.contracts.server_slot.ServerSlot as slot

abbrev pub Slot : RattleType
Slot = slot.the_row

abbrev pub word : Ptr → Val
word p = vstruct (vcons (ptr_val p) vnil)

module _ {M : Type 1} {𝓤 : Ura M} {𝓛 : Logic 𝓤} {K : Type 0} {Γ : List (Item 𝓤)} {G : Goal 𝓤 𝓛.H} where
  pub slot_out : K → (d : Slot.Denot) (vs : List Val) → (vs ≡ word d.at ∷ [] → Seq K 𝓛 (‵ (server_owns d.at d.value) ∷ Γ) G) → Seq K 𝓛 (‵ (Slot.own_val d vs) ∷ Γ) G
  slot_out t d vs k = fsplit t $ fpick t (λ vss. fsplit t $ feq_l t (λ ev. fsplit t $ feq_l t (λ ep. drop t $
      k (subst (λ (ps : List Val). vs ≡ vstruct (of_list (ps ++ [])) ∷ []) ep ev))))

  pub slot_in : K → (p : Ptr) (o : Option EmbeddedServer) → Step K 𝓛 (‵ (Slot.own_val (record { at = p; value = o }) (word p ∷ [])) ∷ Γ) G (‵ (server_owns p o) ∷ Γ) G
  slot_in t p o = step (λ s. let v : Val = word p in
      nothing t $ feq_i t (List Val) (ptr_val p ∷ []) (ptr_val p ∷ []) refl $ fjoin t $ feq_i t (List Val) (v ∷ []) (v ∷ []) refl $ fjoin t $
      fpack t (Valss (RawPtr ∷ [])) (within (shape slot.the_type) (p, tt) (v ∷ [])) (ptr_val p ∷ [], tt) $ fjoin t $ s)

  -- of a machine that is there
  pub there : K → (p : Ptr) (o : Option EmbeddedServer) → IsSome o → ((m : EmbeddedServer) → o ≡ Some m → Seq K 𝓛 (‵ (server_owns p (Some m)) ∷ Γ) G) → Seq K 𝓛 (‵ (server_owns p o) ∷ Γ) G
  there t p None some k = absurd (true≢false (sym some))
  there t p (Some m) some k = k m refl
