-- What is in an open monitor, in numbers: subjects, objects, pairs of both, and how many there are.
use Rattle.std.specs.Prelude.{◌≡◌, ℕ, ℤ, ◌+◌, Bool, nat_lt, List, length, Option, Some, None, unwrap_or}
use Rattle.std.specs.Prelude.{IsSomeAnd, if◌then◌else◌}
use Rattle.std.specs.List.{filter, find, range_with_len}
use Rattle.std.specs.FinMap as map
use Rattle.std.specs.FinSet as set
use Rattle.mls_tables.specs.Triples.{TripleSet}
use Rattle.mls_tables.specs.declared.limits.TheConstants.{MAX_OBJECTS}
use Rattle.mls_tables.specs.declared.mode.Mode.{Mode}
use Rattle.mls_tables.specs.declared.mode.Mode.TheVariants.{Execute, Read, Append, Write}
use Rattle.mls_tree.specs.Tree.{children}
use Rattle.mls_state.specs.State.{State, is_subject, is_active}
use Rattle.mls_c.specs.Opened.{Opened, state_of}
use Rattle.mls_c.specs.Texts.{HasLabel}
use Rattle.mls_c.specs.declared.counts.Counts.{Counts}
use Rattle.mls_c.specs.declared.object_info.ObjectInfo.{ObjectInfo}
use Rattle.mls_c.specs.declared.pair_info.PairInfo.{PairInfo}
use Rattle.mls_c.specs.declared.status.TheConstants.{OK, ENOTFOUND, ERANGE}
use Rattle.mls_c.specs.declared.subject_info.SubjectInfo.{SubjectInfo}

-- These are the numbers of a known subject: of its labels, and 1 where it is trusted. (own)
pub record IsSubjectInfo (v : State) (s : ℕ) (info : SubjectInfo) : Type 0 where
  pub maximum : HasLabel (map.get v.maximum s) info.maximum
  pub current : HasLabel (map.get v.current s) info.current
  pub integrity : HasLabel (map.get v.subject_integrity s) info.integrity
  pub trusted : info.trusted ≡ (if set.contains v.trusted s then 1 else 0)

-- The numbers of a subject of an open monitor. (own)
abbrev pub HasSubjectInfo : Option Opened → ℕ → SubjectInfo → Type 0
HasSubjectInfo old s info = IsSomeAnd old (λ v. IsSubjectInfo (state_of v) s info)

-- These are the numbers of an active object: of its labels, and its parent, 0 where it is the root. (own)
pub record IsObjectInfo (v : State) (o : ℕ) (info : ObjectInfo) : Type 0 where
  pub security : HasLabel (map.get v.object_label o) info.security
  pub integrity : HasLabel (map.get v.object_integrity o) info.integrity
  pub parent : info.parent ≡ unwrap_or (map.get v.parent o) 0

-- The numbers of an object of an open monitor. (own)
abbrev pub HasObjectInfo : Option Opened → ℕ → ObjectInfo → Type 0
HasObjectInfo old o info = IsSomeAnd old (λ v. IsObjectInfo (state_of v) o info)

-- The least child of an object that is above a number, where the object is active and has one. (own)
abbrev pub child_above : State → ℕ → ℕ → Option ℕ
child_above v o above = if is_active v o then find (λ c. nat_lt above c) (children v.parent o) else None

-- The bit of a mode, where a table has the pair in it. (own)
abbrev pub mode_bit : TripleSet → ℕ → ℕ → Mode → ℕ → ℕ
mode_bit table s o x bit = if set.contains table (s, o, x) then bit else 0

-- The modes in which a table has a pair: 1 for execute, 2 for read, 4 for append and 8 for write, added. (own)
abbrev pub modes_number : TripleSet → ℕ → ℕ → ℕ
modes_number table s o =
    mode_bit table s o Execute 1 + mode_bit table s o Read 2 + mode_bit table s o Append 4 + mode_bit table s o Write 8

-- The modes that a pair is permitted, and those in which it is held. (own)
abbrev pub pair_info : State → ℕ → ℕ → PairInfo
pair_info v s o = record { permitted = modes_number v.matrix s o; held = modes_number v.accesses s o }

-- The modes of a pair of an open monitor. (own)
abbrev pub HasPairInfo : Option Opened → ℕ → ℕ → PairInfo → Type 0
HasPairInfo old s o info = IsSomeAnd old (λ v. info ≡ pair_info (state_of v) s o)

-- How many of the first numbers are those of active objects. (own)
abbrev pub active_count : State → ℕ → ℕ
active_count v n = length (filter (is_active v) (range_with_len 0 n))

-- How many entries, subjects and active objects there are, and the number that the next object will have. (own)
pub record AreCounts (v : State) (entries : ℕ) (counts : Counts) : Type 0 where
  pub journal : counts.entries ≡ entries
  pub subjects : (s : ℕ) → is_subject v s ≡ nat_lt s counts.subjects
  pub objects : counts.objects ≡ active_count v MAX_OBJECTS
  pub next : counts.next ≡ v.next

-- The counts of an open monitor. (own)
abbrev pub HasCounts : Option Opened → Counts → Type 0
HasCounts old counts = IsSomeAnd old (λ v. AreCounts (state_of v) (length v.entries) counts)

-- What looking up what may not be there returns, where the handle is open. (own)
abbrev pub there_status : Bool → ℤ
there_status there = if there then OK else ENOTFOUND

-- What copying out a name returns: that there is none, or that it is there, or that the buffer is too short. (own)
abbrev pub name_status : Option (List ℕ) → ℕ → ℤ
name_status None room = ENOTFOUND
name_status (Some name) room = if nat_lt room (length name) then ERANGE else OK
