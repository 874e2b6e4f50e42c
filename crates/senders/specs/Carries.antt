-- The number that a frame carries, in document 02's words and numbers.
use Rattle.std.specs.Prelude.{ℕ, ◌≤◌, ◌<◌, ◌≡◌, None, Some}
use Rattle.senders.specs.Senders.{carried, writer_from, HeldWriter}

-- neither SETTINGS_SAVE nor READ_BY_INDEX_REQ
abbrev pub NotAs42 : ℕ → Type 0
NotAs42 kind = (kind ≡ 0x00a1 → ⊥) × (kind ≡ 0x00a2 → ⊥)

pub record Carries : Type 0 where
  -- "A writer that is given no sender now uses the recorder's own number"
  pub own : (kind own : ℕ) → NotAs42 kind → carried kind (record { own = own; sender = None }) ≡ own
  -- "the READ_BY_INDEX_REQ writer, given no sender, still uses 0x42. SETTINGS_SAVE does too"
  pub request : (own : ℕ) → carried 0x00a2 (record { own = own; sender = None }) ≡ 0x42
  pub save : (own : ℕ) → carried 0x00a1 (record { own = own; sender = None }) ≡ 0x42
  -- a sender that is given is used as given, whatever the type, 0 and 0x42 too
  pub given : (kind own n : ℕ) → carried kind (record { own = own; sender = Some n }) ≡ n
  -- so two recorders are told apart by what they are given no sender for
  pub apart : (kind m n : ℕ) → NotAs42 kind → carried kind (record { own = m; sender = None }) ≡ carried kind (record { own = n; sender = None }) → m ≡ n
  -- every writer whose numbers have 16 bits is one that a program has
  pub held : (own : ℕ) → own < 65536 → HeldWriter (record { own = own; sender = None })
  pub held_given : (own n : ℕ) → own < 65536 → n < 65536 → HeldWriter (record { own = own; sender = Some n })

-- the same of a writer as C has it: an own number, and a sender of 32 bits, which is given where 16 bits hold it
pub record CarriesLinked : Type 0 where
  pub given : (kind own n : ℕ) → n < 65536 → carried kind (writer_from own n) ≡ n
  pub own : (kind own n : ℕ) → 65536 ≤ n → NotAs42 kind → carried kind (writer_from own n) ≡ own
  pub request : (own n : ℕ) → 65536 ≤ n → carried 0x00a2 (writer_from own n) ≡ 0x42
  pub save : (own n : ℕ) → 65536 ≤ n → carried 0x00a1 (writer_from own n) ≡ 0x42
  pub held : (own n : ℕ) → own < 65536 → HeldWriter (writer_from own n)
