-- Document 02, M-100: "Add commands 0 (query device) and 1 (query port), no data, with 001's acks: 128 bytes and 32 bytes after the ack byte."
-- Each layout once, for writing and for reading, its offsets counted after the ack byte. Laws: proofs/AckLaws.antt. Assumes nothing.
use Rattle.std.specs.Prelude.{refl, not, List, [], ◌∷◌, ◌++◌, ℕ, ◌+◌, eqb, ltb, length, get_or, Result}
use Rattle.wire.specs.Checks.{Check, ◌if◌, refusal}
use Rattle.wire.specs.Codec.{Codec, Line, line, decode, within, clear, apart}
use Rattle.wire.specs.Le.{le_at}
use Rattle.tables.specs.Refusal.{result_by}
use Rattle.tables.specs.declared.Device.{Device}
use Rattle.tables.specs.declared.DeviceCaps.{DeviceCaps}
use Rattle.tables.specs.declared.DeviceObjects.{DeviceObjects}
use Rattle.tables.specs.declared.DeviceWork.{DeviceWork}
use Rattle.tables.specs.declared.Port.{Port}
use Rattle.tables.specs.declared.refusal.Refusal.{Refusal}

-- ---- query device: 001's struct of 128 bytes, in its order

-- "flags .., largest region .., page size mask .., version": 001's device_cap_flags, max_mr_size, page_size_cap, hw_ver
abbrev pub caps_lines : {A : Type 0} → (A → DeviceCaps) → List (Line A)
caps_lines of =
    line 0 8 (λ d. (of d).flags) ∷
    line 8 8 (λ d. (of d).region) ∷
    line 16 8 (λ d. (of d).page) ∷
    line 24 4 (λ d. (of d).version) ∷
    []

-- 001's max_qp_wr, max_send_sge, max_recv_sge, max_sge_rd, max_cqe
abbrev pub work_lines : {A : Type 0} → (A → DeviceWork) → List (Line A)
work_lines of =
    line 28 4 (λ d. (of d).requests) ∷
    line 32 4 (λ d. (of d).sends) ∷
    line 36 4 (λ d. (of d).receives) ∷
    line 40 4 (λ d. (of d).reads) ∷
    line 44 4 (λ d. (of d).entries) ∷
    []

-- 001's max_mr, max_pd, max_qp_rd_atom, max_qp_init_rd_atom, max_ah, local_ca_ack_delay
abbrev pub objects_lines : {A : Type 0} → (A → DeviceObjects) → List (Line A)
objects_lines of =
    line 48 4 (λ d. (of d).regions) ∷
    line 52 4 (λ d. (of d).domains) ∷
    line 56 4 (λ d. (of d).responses) ∷
    line 60 4 (λ d. (of d).initiations) ∷
    line 64 4 (λ d. (of d).handles) ∷
    line 68 1 (λ d. (of d).delay) ∷
    []

-- "rest zero"
unfoldable pub device_codec : Codec Device
unfolding within clear apart
device_codec = record {
  size = 128;
  lines = caps_lines (λ d. d.caps) ++ (work_lines (λ d. d.work) ++ (objects_lines (λ d. d.objects) ++ (line 69 59 (λ d. 0) ∷ [])));
  make = λ vs. record {
    caps = record { flags = get_or vs 0 0; region = get_or vs 1 0; page = get_or vs 2 0; version = get_or vs 3 0 };
    work = record {
      requests = get_or vs 4 0;
      sends = get_or vs 5 0;
      receives = get_or vs 6 0;
      reads = get_or vs 7 0;
      entries = get_or vs 8 0;
    };
    objects = record {
      regions = get_or vs 9 0;
      domains = get_or vs 10 0;
      responses = get_or vs 11 0;
      initiations = get_or vs 12 0;
      handles = get_or vs 13 0;
      delay = get_or vs 14 0;
    };
  };
  ends = tt;
  clears = tt;
  back = λ d. refl;
}

-- ---- query port: 001's struct of 32 bytes

-- "GID length .., message size .., rest zero": 001's gid_tbl_len, max_msg_sz
unfoldable pub port_codec : Codec Port
unfolding within clear apart
port_codec = record {
  size = 32;
  lines = line 0 4 (λ p. p.gids) ∷ line 4 4 (λ p. p.message) ∷ line 8 24 (λ p. 0) ∷ [];
  make = λ vs. record { gids = get_or vs 0 0; message = get_or vs 1 0 };
  ends = tt;
  clears = tt;
  back = λ p. refl;
}

-- ---- reading: "answers 1 if the ack is too short, then 4 if its ack byte isn't 0"

abbrev pub query_checks : (size : ℕ) → List ℕ → List Check
query_checks size a = 1 if ltb (length a) (1 + size) ∷ 4 if not (eqb (le_at 1 a 0) 0) ∷ []

-- of the size that it has
abbrev pub report_read : {A : Type 0} → (size : ℕ) → (List ℕ → A) → List ℕ → Result A Refusal
report_read size of a = result_by (refusal (query_checks size a)) (of a)

unfoldable pub device_read : List ℕ → Result Device Refusal
device_read = report_read device_codec.size (λ a. decode device_codec a 1)

unfoldable pub port_read : List ℕ → Result Port Refusal
port_read = report_read port_codec.size (λ a. decode port_codec a 1)
