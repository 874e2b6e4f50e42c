-- An edition of OBS: its type, its header, its observations, and how many of them at most. What OBS is, of any edition, is said over this
-- record; document 01 has the first.
use Rattle.std.specs.Prelude.{ℕ, ◌+◌, ◌-◌, ◌*◌, refl, Bool, List, [], ◌∷◌, eqb}
use Rattle.wire.specs.Value.{u8, u16, u32, s32}
use Rattle.layouts.specs.Field.{any, size}
use Rattle.layouts.specs.Layout.{then, rows, lengths}
use Rattle.layouts.specs.Layout as lay
use Rattle.layouts.specs.Description.{Description, Part, rows_of, made_of, rows_made, made_rows}
use Rattle.observation.specs.declared.entry.Observation.{Observation}

pub record Edition (H O : Type 0) : Type 0 where
  pub kind : ℕ
  pub header : Part H
  pub row : Part O
  pub most : ℕ

-- what an OBS payload holds
pub record Observed (H O : Type 0) : Type 0 where
  pub header : H
  pub observations : List O

module _ {H O : Type 0} (e : Edition H O) where
  -- the message of an edition: the header, then the observations
  abbrev pub obs : Description (Observed H O)
  obs = record {
    kind = e.kind;
    layout = then e.header.fields (rows e.row.fields e.most);
    row = λ r. (e.header.row r.header, rows_of e.row r.observations);
    make = λ v. record { header = e.header.make v.0; observations = made_of e.row v.1 };
    row_make = λ v i. (e.header.row_make v.0 i, rows_made e.row v.1 i);
    make_row = λ r i. record { header = e.header.make_row r.header i; observations = made_rows e.row r.observations i };
  }

  -- n is the length of a payload
  abbrev pub fitting : ℕ → Bool
  fitting = lengths obs.layout

  -- how many observations a payload of n bytes has
  abbrev pub count_in : ℕ → ℕ
  count_in n = lay.count_in e.row.fields (n - size e.header.fields)

  -- where observation i begins; a payload of k observations ends where observation k would begin
  abbrev pub start_of : ℕ → ℕ
  start_of i = size e.header.fields + i * size e.row.fields

-- ---- the first edition, 0x0049: tow u32, wn u16, n_obs u8, then k observations. 16k + 7 bytes, k 0..15

pub record Head : Type 0 where
  pub tow : ℕ
  pub wn : ℕ
  pub n_obs : ℕ

abbrev pub head : Part Head
head = record {
  fields = any u32 ∷ any u16 ∷ any u8 ∷ [];
  row = λ r. (r.tow, (r.wn, (r.n_obs, tt)));
  make = λ v. record { tow = v.0; wn = v.1.0; n_obs = v.1.1.0 };
  row_make = λ v. refl;
  make_row = λ r. refl;
}

abbrev pub observation : Part Observation
observation = record {
  fields = any u32 ∷ any s32 ∷ any u8 ∷ any u8 ∷ any u16 ∷ any u16 ∷ any u8 ∷ any u8 ∷ [];
  row = λ r. (r.p, (r.l_i, (r.l_f, (r.cn0, (r.lock, (r.sat, (r.code, (r.reserved, tt))))))));
  make = λ v.
      record { p = v.0; l_i = v.1.0; l_f = v.1.1.0; cn0 = v.1.1.1.0; lock = v.1.1.1.1.0; sat = v.1.1.1.1.1.0; code = v.1.1.1.1.1.1.0; reserved = v.1.1.1.1.1.1.1.0 };
  row_make = λ v. refl;
  make_row = λ r. refl;
}

abbrev pub first : Edition Head Observation
first = record { kind = 0x0049; header = head; row = observation; most = 15 }

-- ---- a frame of this type is an observation frame

unfoldable pub is_obs : ℕ → Bool
is_obs kind = eqb kind first.kind
