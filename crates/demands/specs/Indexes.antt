-- Document 02, P5: "Support staff ask "where is the first heartbeat of sender 1228 after offset 40000" all day, and each question rescans." An index
-- answers as a full reading does. Of the definitions, and of calls by what the contracts of the functions themselves ensure.
use Rattle.std.specs.Prelude.{ℕ, ◌^◌, ◌<◌, ◌≡◌, List, length, take, drop, Option, Some, None, Result, Ok, Err}
use seplogic.Ra.Ura.{Ura}
use base.Logic.{SProp, ent}
use prog.Memory.{Memory}
use prog.Routine.{Routine}
use types.Logic.{Logic}
use contract.Lifetimes.{Lfts}
use contract.Monad.{Fun, fact}
use Rattle.std.specs.Borrow.{Bor, MutBor}
use Rattle.wire.specs.Number.{Bytes, number_at}
use Rattle.index.specs.Index.{empty}
use Rattle.index.specs.declared.entry.Entry.{Entry}
use Rattle.index.specs.declared.index.Index.{Index}
use Rattle.index.specs.declared.asking.Found.{Found}
use Rattle.frames.specs.declared.step.Frame.{Frame}
use Rattle.refusals.specs.Refusals.{zero_or}
use Rattle.refusals.specs.Numbers.{number_of, answer_of}
use Rattle.refusals.specs.declared.Refusal.{Refusal}
use Rattle.lent_index.specs.Bytes.{index_from_bytes}
use Rattle.indexed.specs.Growing.{Grows, OfTheRest, Extension, CallsGrow, IndexOf, open_frames}
use Rattle.indexed.specs.Asking.{Asked, Such, FirstOf, CallsFind, Tallied, CallsCount}
use Rattle.index.specs.contracts as index
use Rattle.exports.specs.contracts as exports

-- ---- calls, each with what it was lent and for how long, and what it left; and what it came to

pub record Extend : Type 0 where
  pub lives : Lfts 3
  pub index : MutBor Index
  pub capture : Bor (List ℕ)
  pub entries : MutBor (List Entry)
  pub result : Result (Unit {0}) Refusal
  pub after : MutBor Index
  pub left : MutBor (List Entry)

abbrev pub extend_came : Extend → Extension
extend_came k = record {
  room = 208;
  index = k.index.now;
  capture = k.capture.now;
  list = k.entries.now;
  answer = zero_or (answer_of k.result);
  after = k.after.now;
  left = k.left.now;
}

pub record First : Type 0 where
  pub lives : Lfts 2
  pub index : Bor Index
  pub entries : Bor (List Entry)
  pub kind : ℕ
  pub sender : ℕ
  pub offset : ℕ
  pub result : Result (Option Found) Refusal

-- its cases as numbers: 0 and a place, 1 for none, a refusal's own
abbrev pub sought_number : Result (Option Found) Refusal → ℕ
sought_number (Ok (Some f)) = 0
sought_number (Ok None) = 1
sought_number (Err e) = number_of e

abbrev pub sought_place : Result (Option Found) Refusal → ℕ
sought_place (Ok (Some f)) = f.place
sought_place (Ok None) = 0
sought_place (Err e) = 0

abbrev pub first_came : First → Asked
first_came k = record {
  room = 208;
  index = k.index.now;
  list = k.entries.now;
  kind = k.kind;
  sender = k.sender;
  offset = k.offset;
  number = sought_number k.result;
  before = 0;
  place = sought_place k.result;
}

pub record Count : Type 0 where
  pub lives : Lfts 1
  pub index : Bor Index
  pub kind : ℕ
  pub result : Result ℕ Refusal

abbrev pub count_number : Result ℕ Refusal → ℕ
count_number (Ok n) = 0
count_number (Err e) = number_of e

abbrev pub count_total : Result ℕ Refusal → ℕ
count_total (Ok n) = n
count_total (Err e) = 0

abbrev pub count_came : Count → Tallied
count_came k = record { room = 208; index = k.index.now; kind = k.kind; number = count_number k.result; count = count_total k.result }

-- the linked functions: the index is what its bytes stand for. A lent slice holds bytes, and fewer than 2^64 of anything
pub record LinkedExtend : Type 0 where
  pub lives : Lfts 3
  pub index : MutBor (List ℕ)
  pub capture : Bor (List ℕ)
  pub entries : MutBor (List Entry)
  pub number : ℕ
  pub kept : MutBor (List ℕ)
  pub left : MutBor (List Entry)
  pub bytes : Bytes index.now
  pub small : length capture.now < 2 ^ 64
  pub few : length entries.now < 2 ^ 64

abbrev pub linked_extend_came : LinkedExtend → Extension
linked_extend_came k = record {
  room = length k.index.now;
  index = index_from_bytes k.index.now;
  capture = k.capture.now;
  list = k.entries.now;
  answer = k.number;
  after = index_from_bytes k.kept.now;
  left = k.left.now;
}

pub record LinkedFirst : Type 0 where
  pub lives : Lfts 3
  pub index : Bor (List ℕ)
  pub entries : Bor (List Entry)
  pub kind : ℕ
  pub sender : ℕ
  pub offset : ℕ
  pub place : MutBor ℕ
  pub number : ℕ
  pub found : MutBor ℕ

abbrev pub linked_first_came : LinkedFirst → Asked
linked_first_came k = record {
  room = length k.index.now;
  index = index_from_bytes k.index.now;
  list = k.entries.now;
  kind = k.kind;
  sender = k.sender;
  offset = k.offset;
  number = k.number;
  before = k.place.now;
  place = k.found.now;
}

pub record LinkedCount : Type 0 where
  pub lives : Lfts 2
  pub index : Bor (List ℕ)
  pub kind : ℕ
  pub count : MutBor ℕ
  pub number : ℕ
  pub total : MutBor ℕ

abbrev pub linked_count_came : LinkedCount → Tallied
linked_count_came k = record { room = length k.index.now; index = index_from_bytes k.index.now; kind = k.kind; number = k.number; count = k.total.now }

-- ---- at every model of the logic, as every contract is stated
module _ {M : Type 1} {𝓤 : Ura M} (𝓛 : Logic 𝓤) (mem : Memory → SProp 𝓤) (run : Routine → Fun 𝓤) where
  pub record AnswersAsReading : Type 2 where
    -- an index that goes on while the capture grows is the one made afresh: by the definitions,
    pub grows : Grows
    -- and whoever has dropped bytes that were read goes on with the rest alone;
    pub rest : OfTheRest
    -- by calls of `extend`, struct and entries, from an empty index on; a refusal leaves both as they were,
    pub extend_calls : CallsGrow 𝓤 extend_came
        (λ (k : Extend).
        (index.extend.clauses 𝓛 mem run k.lives (k.index, (k.capture, (k.entries, tt)))).ensures tt k.result (k.after, (k.capture, (k.left, tt))))
    -- and of `sbp_extend`, from the bytes that `sbp_index` made
    pub sbp_extend_calls : CallsGrow 𝓤 linked_extend_came
        (λ (k : LinkedExtend).
        (exports.sbp_extend.clauses 𝓛 mem run k.lives (k.index, (k.capture, (k.entries, tt)))).ensures tt k.number (k.kept, (k.capture, (k.left, tt))))
    pub sbp_index_made : (P : SProp 𝓤) (lives : Lfts 1) (bytes kept : MutBor (List ℕ))
        → ent 𝓤 P ((exports.sbp_index.clauses 𝓛 mem run lives (bytes, tt)).ensures tt 0 (kept, tt)) → ent 𝓤 P (fact 𝓤 (index_from_bytes kept.now ≡ empty))
    -- the bytes begin with the position reached and the number of entries held, and none past the 208 changes
    pub index_numbers : (s : List ℕ) → ((index_from_bytes s).reached ≡ number_at 8 s 0) × ((index_from_bytes s).held ≡ number_at 8 s 8)
    pub sbp_index_alone : (P : SProp 𝓤) (lives : Lfts 1) (bytes kept : MutBor (List ℕ)) (n : ℕ)
        → ent 𝓤 P ((exports.sbp_index.clauses 𝓛 mem run lives (bytes, tt)).ensures tt n (kept, tt)) → ent 𝓤 P (fact 𝓤 (drop 208 kept.now ≡ drop 208 bytes.now))
    pub sbp_extend_alone : (P : SProp 𝓤) (k : LinkedExtend)
        → ent 𝓤 P
        ((exports.sbp_extend.clauses 𝓛 mem run k.lives (k.index, (k.capture, (k.entries, tt)))).ensures tt k.number (k.kept, (k.capture, (k.left, tt))))
        → ent 𝓤 P (fact 𝓤 (drop 208 k.kept.now ≡ drop 208 k.index.now))
    -- the first frame of a type and sender at or after an offset is that of the full open reading, and none is said exactly when there is none
    pub first_calls : CallsFind 𝓤 first_came
        (λ (k : First).
        (index.first.clauses 𝓛 mem run k.lives (k.index, (k.entries, (k.kind, (k.sender, (k.offset, tt)))))).ensures tt k.result
        (k.index, (k.entries, (k.kind, (k.sender, (k.offset, tt))))))
    -- and what `first` hands back with it is its entry, at its own place
    pub first_entry : (P : SProp 𝓤) (t : List ℕ) (k : First) (i : ℕ) (e : Entry)
        → ent 𝓤 P
        ((index.first.clauses 𝓛 mem run k.lives (k.index, (k.entries, (k.kind, (k.sender, (k.offset, tt)))))).ensures tt k.result
        (k.index, (k.entries, (k.kind, (k.sender, (k.offset, tt))))))
        → k.result ≡ Ok (Some (record { place = i; entry = e })) → IndexOf t k.index.now (take k.index.now.held k.entries.now)
        → ent 𝓤 P
        (fact 𝓤
        ((f : Frame) × FirstOf (Such k.kind k.sender k.offset) (open_frames t) i f
        × (e ≡ record { offset = f.at; kind = f.kind; sender = f.sender; length = f.length })))
    pub sbp_first_calls : CallsFind 𝓤 linked_first_came
        (λ (k : LinkedFirst).
        (exports.sbp_first.clauses 𝓛 mem run k.lives (k.index, (k.entries, (k.kind, (k.sender, (k.offset, (k.place, tt))))))).ensures tt k.number
        (k.index, (k.entries, (k.kind, (k.sender, (k.offset, (k.found, tt)))))))
    -- a type's count is the number of its frames among those read, and 21 is said exactly of a type without a reading
    pub count_calls : CallsCount 𝓤 count_came
        (λ (k : Count). (index.count.clauses 𝓛 mem run k.lives (k.index, (k.kind, tt))).ensures tt k.result (k.index, (k.kind, tt)))
    pub sbp_count_calls : CallsCount 𝓤 linked_count_came
        (λ (k : LinkedCount).
        (exports.sbp_count.clauses 𝓛 mem run k.lives (k.index, (k.kind, (k.count, tt)))).ensures tt k.number (k.index, (k.kind, (k.total, tt))))
