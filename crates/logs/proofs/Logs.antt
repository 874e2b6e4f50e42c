-- LOG: what its reader and its writer answer, and that it keeps its promise.
use mathlib.Core.Path.{◌≡◌, refl, sym, ap, ap₂, ◌∙◌}
use mathlib.Core.Bool.{Bool, true, false, ◌&&◌, cond, and-true}
use mathlib.Core.List.{List, [], ◌∷◌, ◌++◌}
use mathlib.Core.Logic.{◌↔◌, inl, inr}
use Prim.Native.Nat.{ℕ, zero, suc, ◌+◌, ◌<◌}
use native.Mathlib.Omega.{arith}
use lib.Dec.{leb, lit<}
use lib.ListN.{length, get_or, take, drop, length-replicate}
use lib.Seq.{get_or-drop}
use borrow.Author.Tests.{leb-false, eqb-false}
use Rattle.wire.specs.Number.{Bytes}
use Rattle.padded.specs.Padded.{before_zero, from_zero, no_zero, zeros}
use Rattle.layouts.specs.Layout.{allowed_body, few_enough, body_size, decode_body}
use Rattle.layouts.specs.Inner.{body_stored}
use Rattle.layouts.specs.Description.{inside, reading, read_as}
use Rattle.refusals.specs.Refusals.{refused, given, Answer, ordered, FirstFails, AllPass}
use Rattle.refusals.proofs.Ordered.{exactly_first, exactly_all}
use Rattle.padded.proofs.Texts.{before_from, before_take, from_drop, no_zero_before, split_joined, all_zeros, only_zeros, bytes_zeros}
use Rattle.senders.specs.Senders.{HeldWriter}
use Rattle.senders.specs.declared.Writer.{Writer}
use Rattle.frames.specs.Step.{payload_in}
use Rattle.frame_writer.specs.Writer.{planned, sealed, writing_frame, with_frame}
use Rattle.frame_writer.specs.Faithful.{Faithful, write_answer, written_as, frame_written}
use Rattle.frame_writer.proofs.WrittenPlan.{planned_31}
use Rattle.frame_writer.proofs.Promised as promised
use Rattle.logs.specs.Log.{Logged, log, logged, text_in, shown, read_log, log_length, log_padded}
use Rattle.logs.specs.LogFaithful.{LogFaithful, NonzeroAfterZero}
use Rattle.logs.specs.declared.log.Log.{Log}
use Rattle.logs.proofs.AfterZeros.{after_zero, zero_before}

-- ---- what stands after the level

-- the text and the padding that stand there
module _ (s : List ℕ) {rest : List ℕ} {n : ℕ} (after : rest ≡ drop 1 s) (long : n ≡ length (before_zero rest)) where
  pub text_part : take n rest ≡ text_in s
  text_part = ap (λ (n : ℕ). take n rest) long ∙ before_take rest ∙ ap before_zero after

  pub padding_part : drop n rest ≡ from_zero (drop 1 s)
  padding_part = ap (λ (n : ℕ). drop n rest) long ∙ from_drop rest ∙ ap from_zero after

-- ---- read

module _ (s : List ℕ) where
  -- what was split at the first zero is allowed where nothing but zeros follows it
  pub as_padded : allowed_body log.layout (decode_body log.layout s) ≡ log_padded s
  as_padded = ap (λ (t : Bool). t && log_padded s) (no_zero_before (drop 1 s))

  -- by its length and its padding, as the code tests them
  abbrev tested : Bool → Bool → Answer Log
  tested fits padded = ordered ((fits, 22) ∷ (padded, 23) ∷ []) (shown (inside log s))

  by_tests : read_log s ≡ tested (log_length (length s)) (log_padded s)
  unfolding read_log
  by_tests = ap (tested (log_length (length s))) as_padded

  pub log_22 : log_length (length s) ≡ false → refused 22 ≡ read_log s
  log_22 e = sym (by_tests ∙ ap (λ (t : Bool). tested t (log_padded s)) e)

  module _ (fits : log_length (length s) ≡ true) where
    pub log_23 : log_padded s ≡ false → refused 23 ≡ read_log s
    log_23 e = sym (by_tests ∙ ap₂ tested fits e)

    pub log_given : log_padded s ≡ true → {r : Log} → r ≡ shown (inside log s) → given r ≡ read_log s
    log_given e p = ap given p ∙ sym (by_tests ∙ ap₂ tested fits e)

-- ---- written

module _ (level : ℕ) (text : List ℕ) (padding : ℕ) where
  abbrev r : Logged
  r = logged level text padding

  as_clean : allowed_body log.layout (log.row r) ≡ no_zero text
  as_clean = ap (λ (t : Bool). no_zero text && t) (all_zeros padding) ∙ and-true (no_zero text)

  as_few : few_enough log.layout (log.row r) ≡ leb (length text + padding) 254
  as_few = ap (λ (n : ℕ). leb (length text + n) 254) (length-replicate padding 0)

  as_long : 1 + length text + padding ≡ body_size log.layout (log.row r)
  as_long = omega (arith, length-replicate {A = ℕ} padding 0)

  -- over 254 bytes after the level is over 255 in all, so that 31 is tested once
  written_by : (room : ℕ) → write_answer log r room ≡ ordered ((no_zero text, 23) ∷ writing_frame (1 + length text + padding) room) (1 + length text + padding + 8)
  unfolding write_answer planned
  written_by room =
      let size = body_size log.layout (log.row r) in
      ap₂ (λ (clean : Bool) (few : Bool). ordered ((clean, 23) ∷ (few, 31) ∷ writing_frame size room) (size + 8)) as_clean as_few
      ∙ ap (λ (n : ℕ). ordered ((no_zero text, 23) ∷ (leb (length text + padding) 254, 31) ∷ writing_frame n room) (n + 8)) (sym as_long)
      ∙ ap (λ (a : Answer ℕ). cond (no_zero text) a (refused 23)) (by (leb (length text + padding) 254) refl)
    where
      by : (few : Bool) → leb (length text + padding) 254 ≡ few
          → cond few (planned (1 + length text + padding) room) (refused 31) ≡ planned (1 + length text + padding) room
      by true e = refl
      by false e = sym (planned_31 (1 + length text + padding) room (omega (arith, leb-false (length text + padding) 254 e)))

  module _ (w : Writer) (buf : List ℕ) where
    -- the writer's answer, and the buffer as it leaves it
    abbrev pub Wrote : Answer ℕ → List ℕ → Type 0
    Wrote = promised.Wrote log w r buf

    pub wrote_23 : no_zero text ≡ false → Wrote (refused 23) buf
    wrote_23 e = promised.wrote_23 log w r buf (as_clean ∙ e)

    module _ (clean : no_zero text ≡ true) where
      pub wrote_31 : leb (length text + padding) 254 ≡ false → Wrote (refused 31) buf
      wrote_31 many = promised.wrote_31 log w r buf (as_clean ∙ clean) (as_few ∙ many)

      module _ (few : leb (length text + padding) 254 ≡ true) {a : Answer ℕ} (plan : a ≡ planned (1 + length text + padding) (length buf)) where
        as_planned : planned (1 + length text + padding) (length buf) ≡ planned (body_size log.layout (log.row r)) (length buf)
        as_planned = ap (λ (n : ℕ). planned n (length buf)) as_long

        pub wrote_nothing : {n : ℕ} → planned (1 + length text + padding) (length buf) ≡ refused n → Wrote a buf
        wrote_nothing q = promised.wrote_nothing log w r buf (as_clean ∙ clean) (as_few ∙ few) (plan ∙ as_planned) (sym as_planned ∙ q)

        pub wrote : {n : ℕ} {t u : List ℕ} → planned (1 + length text + padding) (length buf) ≡ given n → t ≡ body_stored log.layout (log.row r) buf 6
            → u ≡ sealed log.kind w (1 + length text + padding) t → Wrote a u
        wrote {n} {t} q p c =
            promised.wrote log w r buf (as_clean ∙ clean) (as_few ∙ few) (plan ∙ as_planned) (sym as_planned ∙ q) p
            (c ∙ ap (λ (n : ℕ). sealed log.kind w n t) as_long)

-- ---- its promise

message : Faithful log
message = promised.faithful log (lit< tt) tt

module _ (s : List ℕ) where
  -- 23 is told of the padding alone
  told_23 : read_log s ≡ refused 23 → (log_length (length s) ≡ true) × (log_padded s ≡ false)
  told_23 r = only ((exactly_first (shown (inside log s)) ((log_length (length s), 22) ∷ (log_padded s, 23) ∷ []) 23).0 (sym (by_tests s) ∙ r))
    where
      only : FirstFails ((log_length (length s), 22) ∷ (log_padded s, 23) ∷ []) 23 → (log_length (length s) ≡ true) × (log_padded s ≡ false)
      only (inl f) = absurd (eqb-false 23 22 refl f.1)
      only (inr (t, inl f)) = (t, f.0)
      only (inr (t, inr f)) = absurd f.1

  after_level : log_padded s ≡ false → NonzeroAfterZero s
  after_level f =
      let found = after_zero (drop 1 s) f in
      (1 + found.0, 1 + found.1, omega arith, omega (arith, found.2), sym (get_or-drop 1 s found.0 0) ∙ found.3, λ z. found.4 (get_or-drop 1 s found.1 0 ∙ z))

  module _ (l : Log) (g : read_log s ≡ given l) where
    accepted : AllPass (reading log s).tests × (shown (inside log s) ≡ l)
    unfolding read_log
    accepted = (exactly_all (shown (inside log s)) (reading log s).tests l).0 g

    -- the padding are as many zeros as the code shows
    padding_zeros : from_zero (drop 1 s) ≡ zeros l.padding
    padding_zeros = only_zeros (from_zero (drop 1 s)) (sym (as_padded s) ∙ accepted.0.1.0) ∙ ap (λ (l : Log). zeros l.padding) accepted.1

    -- so what the code shows is the whole message
    whole : logged l.level (text_in s) l.padding ≡ inside log s
    whole =
        ap (λ (p : List ℕ). record { level = l.level; text = text_in s; padding = p }) (sym padding_zeros)
        ∙ ap (λ (l : Log). record { level = l.level; text = text_in s; padding = from_zero (drop 1 s) }) (sym accepted.1)

    split : (t : List ℕ) (n : ℕ) → ((no_zero t ≡ true) × (drop 1 s ≡ t ++ zeros n)) ↔ ((t ≡ text_in s) × (n ≡ l.padding))
    split t n = (
      λ h.
          let only = split_joined t (zeros n) h.0 (all_zeros n) in (
            sym (ap before_zero h.1 ∙ only.0),
            sym (length-replicate n 0) ∙ ap length (sym (ap from_zero h.1 ∙ only.1) ∙ padding_zeros) ∙ length-replicate l.padding 0,
          ),
      λ h. (
        ap no_zero h.0 ∙ no_zero_before (drop 1 s),
        sym (before_from (drop 1 s)) ∙ ap₂ (λ (t : List ℕ) (p : List ℕ). t ++ p) (sym h.0) (padding_zeros ∙ ap zeros (sym h.1)),
      ),
    )

    again_through : (w : Writer) (buf : List ℕ) → Bytes s → written_as log w (logged l.level (text_in s) l.padding) buf ≡ with_frame log.kind w s buf
    unfolding read_as
    again_through w buf h =
        ap (λ (r : Logged). written_as log w r buf) whole
        ∙ message.again w (inside log s) buf s h ((exactly_all (inside log s) (reading log s).tests (inside log s)).1 (accepted.0, refl))

nonzero : (s : List ℕ) (i j : ℕ) → 0 < i → i < j → get_or s i 0 ≡ 0 → (get_or s j 0 ≡ 0 → ⊥) → log_padded s ≡ false
nonzero [] i j p h z n = absurd (n refl)
nonzero (b ∷ s) zero j p h z n = absurd (omega arith)
nonzero (b ∷ s) (suc i) zero p h z n = absurd (omega arith)
nonzero (b ∷ s) (suc i) (suc j) p h z n = zero_before s i j (omega arith) z n

module _ (w : Writer) (level : ℕ) (text : List ℕ) (padding : ℕ) (buf : List ℕ) {n : ℕ} (s : HeldWriter w) (small : level < 256) (held : Bytes text) (g : write_answer log (logged level text padding) (length buf) ≡ given n) where
  abbrev payload : List ℕ
  payload = payload_in (written_as log w (logged level text padding) buf) (frame_written log w (logged level text padding))

  read_whole : read_as log payload ≡ given (logged level text padding)
  read_whole = message.same w (logged level text padding) buf s g ((record { fits = small }, tt), (held, bytes_zeros padding)) ((refl, tt), tt)

  back_through : (read_log payload ≡ given (record { level = level; length = length text; padding = padding })) × (text_in payload ≡ text)
  unfolding read_as read_log
  back_through =
      let read = (exactly_all (inside log payload) (reading log payload).tests (logged level text padding)).0 read_whole in
      let shows = ap shown read.1 ∙ ap (λ (n : ℕ). record { level = level; length = length text; padding = n }) (length-replicate padding 0) in
      ((exactly_all (shown (inside log payload)) (reading log payload).tests _).1 (read.0, shows), ap (λ (r : Logged). r.text) read.1)

pub log_faithful : LogFaithful
log_faithful = record {
  message = message;
  read_23 = λ s. (λ r. let told = told_23 s r in (told.0, after_level s told.1), λ h. sym (log_23 s h.0 (nonzero s h.1.0 h.1.1 h.1.2 h.1.3 h.1.4 h.1.5)));
  one_split = λ s l g. split s l g;
  written_by = written_by;
  back = back_through;
  again = λ w l buf s h g. again_through s l g w buf h;
}
