-- Document 02, P4: "in open reading the frames, junk and bad steps of a capture are a leading part of those of every longer capture that begins
-- with it". Of the steps, of one call of `next`, and of all calls from the start on.
use Rattle.std.specs.Prelude.{ℕ, ◌^◌, ◌<◌, ◌≡◌, true, List, ◌++◌, map, length}
use Rattle.frames.specs.Step.{payload_in}
use Rattle.frames.specs.Reading.{open_steps, closed_steps}
use Rattle.frames.specs.Cursors.{next_of, Led}
use Rattle.frames.specs.declared.step.Frame.{Frame}
use Rattle.frames.specs.declared.cursor.Cursor.{Cursor}
use Rattle.frames.specs.declared.cursor.Next as Next

-- xs is a leading part of ys: ys begins with it
abbrev pub Leads : {A : Type 0} → List A → List A → Type 0
Leads {A} xs ys = (rest : List A) × (ys ≡ xs ++ rest)

-- what the answer to a call with c tells of a longer capture t: a frame is the answer there too; where it was none, the cursor that was handed back
-- goes on there to what c goes on to
abbrev pub Stands : List ℕ → Cursor → Next.Next → Type 0
Stands t c (Next.TheVariants.Frame f d) = next_of t c ≡ Next.TheVariants.Frame f d
Stands t c (Next.TheVariants.End d) = next_of t d ≡ next_of t c
Stands t c (Next.TheVariants.Needs n d) = next_of t d ≡ next_of t c

pub record Stays : Type 0 where
  -- the steps, each with its position
  pub steps_lead : (s t : List ℕ) → Leads s t → Leads (open_steps s) (open_steps t)
  -- they lead those of closed reading too: the listing of the complete capture takes none of them back
  pub closed_begins : (s t : List ℕ) → Leads s t → Leads (open_steps s) (closed_steps t)
  -- a call with any cursor of open reading
  pub answer_stands : (s t : List ℕ) → Leads s t → length t < 2 ^ 64 → (c : Cursor) → c.opened ≡ true → Stands t c (next_of s c)
  -- frames that calls on s have handed out, calls on t hand out first, and come to the same cursor; with the same payload bytes
  pub frames_stay : (s t : List ℕ) → Leads s t → length t < 2 ^ 64 → (fs : List Frame) (c : Cursor) → Led true s fs c
      → Led true t fs c × (map (payload_in t) fs ≡ map (payload_in s) fs)
