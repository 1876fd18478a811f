-- What the functions of boxes ask of an office and of the heap: each as an argument of a generic function, and how it is let go.
-- Assumes `Logic`.
use Rattle.std.proofs.Common.{[], ◌∷◌, refl}
use seplogic.Ra.Ura.{Ura}
use base.Logic.{SProp, sep, emp, via, emp∗, comm∗}
use base.Fml.{ftrue, fsep}
use mir.Raw.{raw as bare}
use mir.Syntax.{Callee, Dict, impl, method, no_args, tnil, tcons, dnil}
use prog.Model.{Model}
use prog.Wired.{Wired}
use contract.BorrowLft.{◌⊑◌}
use contract.Monad.{fact}
use contract.Running.{Running}
use types.Logic.{Logic, sem}
use types.Kit.{raw, ◌$◌, ◌∵◌, !, qed, keep, join, show, done}
use denote.Exit.{no}
use denote.Laws.{Lawful}
use denote.RattleType.{RattleType}
use denote.Steps.{nothing}
use denote.Param.{layout, arg}
use denote.Param.Glue as glue
use denote.Param.Laws.{Laws, arg_laws}
use denote.Param.NoDrop.{glues}
use denote.Triple.Carry.{beside, spared}
use denote.Triple.Spec.{Spec}
use denote.Triple.Table.{widened, run_framed}
use Rattle.std.specs.contracts.impls.GlobalAllocator.TheImpl.{ghosts}
use Rattle.std.specs.contracts.alloc.Global as global
use Rattle.std.proofs.alloc.Global.TheLaws as global_laws
use Rattle.std.specs.contracts.boxed.Box as box
use Rattle.std.proofs.boxed.Box.TheLaws as box_laws
use Rattle.mls_c.specs.contracts.hall.Hall as hall
use Rattle.mls_c.proofs.hall.Hall.TheLaws as hall_laws
use Rattle.mls_c.specs.contracts.mls_c++hall++Hall+Destruct.drop as hall_drop
use Rattle.mls_c.proofs.mls_c++hall++Hall+Destruct.drop.Symbol as hall_symbol
use Rattle.mls_c.proofs.mls_c++hall++Hall+Destruct.drop.Met as hall_met
use Rattle.mls_c.proofs.Destruct++none.drop.Code as none_code

-- a box of an office
abbrev pub Boxed : RattleType
Boxed = box.the_row hall.the_row global.the_row ghosts

pub boxed_lawful : {M : Type 1} {𝓤 : Ura M} (𝓛 : Logic 𝓤) → Lawful 𝓛 Boxed
boxed_lawful 𝓛 = (box_laws.the_field_loose hall.the_row global.the_row ghosts hall_laws.the_row_laws global_laws.the_row_laws).lawful 𝓛

-- the heap and an office as arguments of a generic function
abbrev pub Heap : RattleType
Heap = arg (bare (layout global.the_row)) no global.the_row

abbrev pub heap_laws : Laws Heap
heap_laws = arg_laws (bare (layout global.the_row)) no global.the_row global_laws.the_row_laws refl

abbrev pub Monitor : RattleType
Monitor = arg (bare (layout hall.the_row)) no hall.the_row

abbrev pub monitor_laws : Laws Monitor
monitor_laws = arg_laws (bare (layout hall.the_row)) no hall.the_row hall_laws.the_row_laws refl

-- the heap is let go by doing nothing
abbrev pub heap_drop : Dict
heap_drop = impl ("mls_c::Destruct++none::drop" ∷ []) (tcons (layout Heap) tnil) dnil

pub heap_goes : {M : Type 1} (𝓤 : Ura M) (𝓛 : Logic 𝓤) (𝓜 : Model 𝓤 𝓛.H) (𝓡 : Running 𝓤 𝓛.H 𝓜) → Wired 𝓡.env none_code.code → glue.Met 𝓛 𝓜 𝓡 𝓡.env Heap heap_drop
unfolding none_code.code
heap_goes {M} 𝓤 𝓛 𝓜 𝓡 wired = glues "mls_c::Destruct++none::drop" 𝓡.env wired Heap heap_laws M 𝓤 𝓛 𝓜 𝓡

-- an office is let go by its drop
abbrev pub monitor_drop : Dict
monitor_drop = impl ("mls_c::mls_c++hall++Hall+Destruct::drop" ∷ []) tnil dnil

pub monitor_goes : {M : Type 1} (𝓤 : Ura M) (𝓛 : Logic 𝓤) (𝓜 : Model 𝓤 𝓛.H) (𝓡 : Running 𝓤 𝓛.H 𝓜) → Wired 𝓡.env hall_symbol.code → glue.Met 𝓛 𝓜 𝓡 𝓡.env Monitor monitor_drop
monitor_goes 𝓤 𝓛 𝓜 𝓡 wired =
    let R : RattleType = Monitor in let k : Callee = method monitor_drop 0 no_args in let S = glue.signature R in
    let framed = run_framed 𝓤 𝓛.H 𝓜 𝓡 (𝓡.env k) in let said = hall_drop.spec 𝓛 𝓜.mem 𝓡.returns in
    let longer : Spec 𝓤 S = λ κs a. record { ghost = Unit {0}; requires = λ g. sep 𝓤 (fact 𝓤 (κs.0 ⊑ R.lives)) ((said tt a).requires g); ensures = λ g r. (said tt a).ensures g r } in
    beside 𝓛 S (𝓡.run (𝓡.env k)) framed longer (glue.spent 𝓛 R) (λ κs a x. x) (λ κs a x. emp 𝓤)
    (λ κs a x. let asked : SProp 𝓤 = (longer κs a).requires x in via 𝓤 (sep 𝓤 (emp 𝓤) asked) (emp∗ 𝓤 asked) (comm∗ 𝓤 (emp 𝓤) asked))
    (λ κs a x r. qed 𝓛 (raw ((longer κs a).ensures x r) ∷ raw (emp 𝓤) ∷ []) ∵ keep ! [] $ show ! (λ (ws : Unit {0} × Unit {0}). sep 𝓤 (sem 𝓛 (fsep ftrue ftrue)) (emp 𝓤)) (tt, tt) $
    nothing ! $ nothing ! $ nothing ! $ join ! $ done !)
    (spared 𝓛 hall_drop.signature (𝓡.run (𝓡.env k)) framed 1 (R.lives, tt) said
    (widened 𝓤 𝓛.H _ 𝓜 𝓡 𝓡.env (𝓡.env hall_symbol.name) (𝓡.env k) (hall_symbol.as_method 𝓡.env wired k refl) (hall_met.met 𝓤 𝓛 𝓜 𝓡 wired)))
