-- The machine value of a `Kept`. Assumes `Logic`.
use Rattle.std.proofs.Common.{◌≡◌, List, [], ◌∷◌, refl, sym}
use seplogic.Ra.Ura.{Ura}
use mathlib.Core.Bool.{true≢false}
use mir.Val.{Val, vstruct, vcons, vnil}
use types.Logic.{Logic}
use types.Kit.{Item, Goal, Step, step, ‵, ◌$◌, fjoin, fpack, feq_i}
use denote.RattleType.{Valss}
use denote.Builtin.{RawPtr}
use denote.RawPtr.{Ptr, ptr_val}
use denote.Steps.{nothing}
use denote.Struct.Struct.{within}
use denote.Struct.Owning.{shape}
use Rattle.std.specs.Prelude.{Option, Some, None, IsSome}
use Rattle.mls_c.specs.Offices.{Place}
use Rattle.mls_c.specs.OfficeHandles.{owns_place}
use Rattle.mls_c.specs.contracts.kept_place.KeptPlace as kept

abbrev pub word : Ptr → Val
word p = vstruct (vcons (ptr_val p) vnil)

module _ {M : Type 1} {𝓤 : Ura M} {𝓛 : Logic 𝓤} {K : Type 0} {Γ : List (Item 𝓤)} {G : Goal 𝓤 𝓛.H} where
  pub kept_in : K → (p : Ptr) (x : Option Place)
      → Step K 𝓛 (‵ (kept.the_row.own_val (record { at = p; value = x }) (word p ∷ [])) ∷ Γ) G (‵ (owns_place p x) ∷ Γ) G
  kept_in t p x = step (λ s. let v : Val = word p in
      nothing t $ feq_i t (List Val) (ptr_val p ∷ []) (ptr_val p ∷ []) refl $ fjoin t $ feq_i t (List Val) (v ∷ []) (v ∷ []) refl $ fjoin t $
      fpack t (Valss (RawPtr ∷ [])) (within (shape kept.the_type) (p, tt) (v ∷ [])) (ptr_val p ∷ [], tt) $ fjoin t $ s)

pub some_of : (x : Option Place) → IsSome x → (m : Place) × (x ≡ Some m)
some_of None is = absurd (true≢false (sym is))
some_of (Some m) is = (m, refl)
