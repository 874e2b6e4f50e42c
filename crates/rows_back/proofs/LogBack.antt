-- A LOG that is written comes back: its payload stands in the frame, and is read.
use mathlib.Core.Path.{◌≡◌, refl, sym, ap, ◌∙◌}
use mathlib.Core.Bool.{true, and-eq-true_iff}
use mathlib.Core.List.{List, [], ◌∷◌, ◌++◌}
use Prim.Native.Nat.{ℕ, ◌+◌, ◌%◌, ◌≤◌, ◌<◌}
use native.Mathlib.Omega.{arith}
use lib.Dec.{lit<}
use lib.ListN.{length, length-append}
use borrow.Author.Tests.{leb-true, le-leb}
use Rattle.refusals.specs.Refusals.{given}
use Rattle.refusals.proofs.Ordered.{exactly_all}
use Rattle.wire.specs.Number.{bytes_of}
use Rattle.wire.proofs.Numbers.{number_byte}
use Rattle.padded.specs.Padded.{no_zero, all_zero, zeros}
use Rattle.layouts.specs.Layout.{allowed_body, few_enough, body_size, encode_body}
use Rattle.senders.specs.Senders.{carried, HeldWriter}
use Rattle.senders.specs.declared.Writer.{Writer}
use Rattle.frames.specs.Step.{step_at, payload_in}
use Rattle.frames.specs.declared.step.Step.TheVariants.{Found}
use Rattle.frame_writer.specs.Writer.{with_frame}
use Rattle.frame_writer.specs.Faithful.{writing, write_answer, written_as}
use Rattle.frame_writer.proofs.Promised.{as_framed}
use Rattle.frame_writer.proofs.WrittenRead.{framed_reads_back, framed_payload_back}
use Rattle.logs.specs.Log.{Logged, log, logged}
use Rattle.logs.proofs.Logs.{log_faithful}
use Rattle.row_reader.specs.ReadRow.{read_row}
use Rattle.rows_back.specs.RowsBack.{framed}
use Rattle.rows_back.specs.LogRows.{NoZero}
use Rattle.rows_back.proofs.Texts.{no_zero_lem, each_nonzero}
use Rattle.rows_back.proofs.LogRead.{gives}

pub taken : (level : ℕ) (text : List ℕ) (padding room : ℕ) → NoZero text → length text + padding ≤ 254 → length text + padding + 9 ≤ room
    → write_answer log (logged level text padding) room ≡ given (length text + padding + 9)
taken level text padding room none few enough =
    let size = 1 + length text + padding in
    let all : size + 8 ≡ length text + padding + 9 = omega arith in
    log_faithful.written_by level text padding room
    ∙ rw (no_zero_lem text none, le-leb size 255 (omega arith), le-leb (size + 8) room (omega arith)) (ap given all)

module _ (by : Writer) (level : ℕ) (text : List ℕ) (padding : ℕ) (buf : List ℕ) (n : ℕ) (small : HeldWriter by) (byte : level < 256)
    (g : write_answer log (logged level text padding) (length buf) ≡ given n) where
  abbrev r : Logged
  r = logged level text padding

  abbrev s : List ℕ
  s = level ∷ text ++ zeros padding

  abbrev bytes : List ℕ
  bytes = written_as log by r buf

  encoded : encode_body log.layout (log.row r) ≡ s
  unfolding bytes_of
  encoded = let low : level % 256 ≡ level = omega arith in ap (λ (b : ℕ). b ∷ text ++ zeros padding) low

  long : body_size log.layout (log.row r) ≡ length s
  long = omega (arith, length-append text (zeros padding))

  -- what was tested
  record Tested : Type 0 where
    clean : allowed_body log.layout (log.row r) ≡ true
    few : few_enough log.layout (log.row r) ≡ true
    short : length s ≤ 255
    room : length s + 8 ≤ length buf
    sized : n ≡ length s + 8

  tested : Tested
  unfolding write_answer
  tested =
      let size = body_size log.layout (log.row r) in
      let all = (exactly_all (size + 8) (writing log r (length buf)).tests n).0 g in
      let t = all.0 in
      record {
        clean = t.0;
        few = t.1.0;
        short = omega (arith, long, leb-true size 255 t.1.1.0);
        room = omega (arith, long, leb-true (size + 8) (length buf) t.1.1.1.0);
        sized = omega (arith, long, all.1);
      }

  pub sized : n ≡ length s + 8
  sized = tested.sized

  as_frame : bytes ≡ with_frame 0x0401 by s buf
  as_frame = as_framed log by r buf tested.clean tested.few ∙ ap (λ (p : List ℕ). with_frame 0x0401 by p buf) encoded

  pub found : step_at bytes 0 ≡ Found (framed 0x0401 (carried 0x0401 by) (length s))
  found = ap (λ (t : List ℕ). step_at t 0) as_frame ∙ framed_reads_back 0x0401 by s buf (lit< tt) small tested.short tested.room

  pub payload : payload_in bytes (framed 0x0401 (carried 0x0401 by) (length s)) ≡ s
  payload =
      ap (λ (t : List ℕ). payload_in t (framed 0x0401 (carried 0x0401 by) (length s))) as_frame
      ∙ framed_payload_back 0x0401 by s buf (lit< tt) small tested.short tested.room

  pub row_back : (room : ℕ) → 3 ≤ room
      → read_row 0x0401 (payload_in bytes (framed 0x0401 (carried 0x0401 by) (length s))) room ≡ given (level ∷ length text ∷ padding ∷ [])
  row_back room enough =
      let clean = ((and-eq-true_iff (no_zero text) (all_zero (zeros padding))).0 tested.clean).0 in
      ap (λ (p : List ℕ). read_row 0x0401 p room) payload
      ∙ gives s room (omega arith, tested.short) text padding (refl, each_nonzero text clean) enough
      ∙ ap (λ (b : ℕ). given (b ∷ length text ∷ padding ∷ [])) (sym (number_byte s 0 (omega arith)))
