-- Every message is found under its own type number and read as its own reader reads it, once for the whole list: the numbers differ.
use mathlib.Core.Path.{◌≡◌, refl, sym, ap, ap₂, ◌∙◌, subst}
use mathlib.Core.Bool.{Bool, true, false, ◌&&◌, not, cond, false≢true}
use mathlib.Core.List.{List, [], ◌∷◌, ◌++◌, map, append_assoc}
use Prim.Native.Nat.{ℕ, ◌<◌}
use lib.Dec.{eqb, leb, ltb}
use lib.ListN.{length}
use borrow.Author.Tests.{eq-eqb, leb-true, ltb-true}
use Rattle.layouts.specs.Field.{size}
use Rattle.layouts.specs.Layout.{Layout, run, then, bytes, text, rows, Sound, allowed_body, decode_body}
use Rattle.layouts.specs.Description.{read_as, reading, inside}
use Rattle.refusals.specs.Refusals.{ordered}
use Rattle.refusals.proofs.Joined.{ordered_mapped}
use Rattle.frame_writer.proofs.Promised.{faithful}
use Rattle.observation.specs.Edition.{fitting, obs, first}
use Rattle.observation.specs.Obs.{reading_obs, obs_in, read_obs}
use Rattle.observation.specs.declared.obs.Obs.{Obs}
use Rattle.observation.proofs.ObsReading.{allowed, obs_shown}
use Rattle.logs.specs.Log as system
use Rattle.logs.specs.Log.{read_log}
use Rattle.payloads.specs.Payloads.{Described, messages, Entry, entry_of, table, entry_for, tests_of, Typed, TypedIn, Promised, AllOf}
use Rattle.payloads.specs.declared.Message.TheVariants as M

-- ---- the entry of a type

-- no entry has that type
abbrev lacks : List Entry → ℕ → Bool
lacks [] kind = true
lacks (e ∷ es) kind = not (eqb kind e.kind) && lacks es kind

pub both : (t u : Bool) → (t && u) ≡ true → (t ≡ true) × (u ≡ true)
both true u h = (refl, h)
both false u h = absurd (false≢true h)

own : (before : List Entry) (e : Entry) (after : List Entry) → lacks before e.kind ≡ true → entry_for (before ++ (e ∷ after)) e.kind ≡ e
unfolding entry_for
own [] e after h = rw (eq-eqb e.kind e.kind refl)
own (b ∷ bs) e after h = let k = both (not (eqb e.kind b.kind)) (lacks bs e.kind) h in by (eqb e.kind b.kind) k.0 (own bs e after k.1)
  where
    by : (t : Bool) → not t ≡ true → entry_for (bs ++ (e ∷ after)) e.kind ≡ e → cond t b (entry_for (bs ++ (e ∷ after)) e.kind) ≡ e
    by true h rest = absurd (false≢true h)
    by false h rest = rest

-- ---- every message

-- rows take some bytes each
abbrev sound : Layout → Bool
sound (run fs) = true
sound (then fs l) = sound l
sound (bytes most) = true
sound (text most) = true
sound (rows fs most) = leb 1 (size fs)

sound_layout : (l : Layout) → sound l ≡ true → Sound l
sound_layout (run fs) h = tt
sound_layout (then fs l) h = sound_layout l h
sound_layout (bytes most) h = tt
sound_layout (text most) h = tt
sound_layout (rows fs most) h = leb-true 1 (size fs) h

-- its type is a u16, and no message before it has it
abbrev distinct : List Entry → List Described → Bool
distinct before [] = true
distinct before (m ∷ ms) =
    let d = m.description in
    lacks before d.kind && (ltb d.kind 65536 && (sound d.layout && distinct (before ++ (entry_of m ∷ [])) ms))

-- payloads of its type read as its reader reads them, where its entry is found
module _ (m : Described) (es : List Entry) (found : entry_for es m.description.kind ≡ entry_of m) where
  read_own : TypedIn es m.description.kind m.name (read_as m.description)
  unfolding read_as
  read_own s = ap (λ (e : Entry). ordered (tests_of e s) (e.holds s)) found ∙ ordered_mapped m.name (inside m.description s) (reading m.description s).tests

-- what the test of the whole list tells of a message: its entry is found, its type is a u16, its rows take some bytes
abbrev FoundIn : List Entry → Described → Type 0
FoundIn es m = let d = m.description in (entry_for es d.kind ≡ entry_of m) × (d.kind < 65536) × Sound d.layout

abbrev pub Found : Described → Type 0
Found = FoundIn table

all_found : (before : List Entry) (ms : List Described) → distinct before ms ≡ true → AllOf (FoundIn (before ++ map entry_of ms)) ms
all_found before [] h = tt
all_found before (m ∷ ms) h =
    let d = m.description in
    let more = before ++ (entry_of m ∷ []) in
    let new = both (lacks before d.kind) (ltb d.kind 65536 && (sound d.layout && distinct more ms)) h in
    let small = both (ltb d.kind 65536) (sound d.layout && distinct more ms) new.1 in
    let rest = both (sound d.layout) (distinct more ms) small.1 in
    let es = map entry_of ms in (
      (own before (entry_of m) es new.0, ltb-true d.kind 65536 small.0, sound_layout d.layout rest.0),
      subst (λ (all : List Entry). AllOf (FoundIn all) ms) (append_assoc before (entry_of m ∷ []) es) (all_found more ms rest.1),
    )

pub found : AllOf Found messages
found = all_found [] messages refl

-- what follows of each
pub all_of : {P Q : Described → Type 0} → ((m : Described) → P m → Q m) → (ms : List Described) → AllOf P ms → AllOf Q ms
all_of f [] h = tt
all_of f (m ∷ ms) h = (f m h.0, all_of f ms h.1)

pub promised : AllOf Promised messages
promised = all_of {P = Found} {Q = Promised} (λ m h. (faithful m.description h.1 h.2, read_own m table h.0)) messages found

-- ---- OBS, and LOG

-- an OBS passes its ranges, which it has none of
pub obs_allowed : (s : List ℕ) → allowed_body (obs first).layout (decode_body (obs first).layout s) ≡ true
obs_allowed s = allowed first s (λ v. refl) (λ v. refl)

pub obs_read : Typed first.kind (λ r. M.Obs r) read_obs
unfolding entry_for read_obs
obs_read s =
    ap₂ (λ (t : Bool) (o : Obs). ordered ((fitting first (length s), 22) ∷ (t, 23) ∷ []) (M.Obs o)) (obs_allowed s) (sym (obs_shown s))
    ∙ ordered_mapped (λ r. M.Obs r) (obs_in s) (reading_obs s).tests

pub log_read : Typed (system.log).kind (λ r. M.Log r) read_log
unfolding entry_for read_log
log_read s = ordered_mapped (λ r. M.Log r) (system.shown (inside system.log s)) (reading system.log s).tests
