-- Each layout by literal bytes, read and written: the records of document 01, and the rows and blocks of the lent state. A swapped or moved
-- line of a layout is a lawful layout of another record; these examples tell them apart. Assumes nothing.
use mathlib.Core.Path.{◌≡◌, refl}
use mathlib.Core.List.{List, [], ◌∷◌, ◌++◌}
use mathlib.Core.Option.{some, none}
use Prim.Native.Nat.{ℕ, ◌+◌, ◌*◌, ◌^◌}
use lib.ListN.{replicate}
use Rattle.wire.specs.Codec.{Codec, decode, encode, fields_at, put_fields}
use Rattle.wire.specs.Le.{le_at, put_le}
use Rattle.wire.specs.Rows.{rows, rows_from}
use Rattle.tables.specs.Commands.{Command, command_of, encode_ack, ack_need, number_codec, register_codec, create_qp_codec, modify_qp_codec}
use Rattle.tables.specs.Layout.{queue_codec, region_codec, page_codec, pair_codec, waiting_codec, kind_codec, turn_base, pd_flag_base, cq_flag_base, cq_base, entry_base, mr_flag_base, mr_base, page_base, qp_flag_base, qp_base, waiting_base, receive_base, send_head_base, kind_base, record_base, state_size}
use Rattle.tables.specs.Records.{sge_codec, send_codec, send_sge, inline_bytes, inline_length, receive_codec, receive_sges, completion_codec}
use Rattle.tables.specs.Queries.{device_codec, port_codec}
use Rattle.tables.specs.declared.Ack.TheVariants.{Device, Port}
use Rattle.tables.specs.declared.Sge.{Sge}

-- the bytes read as the value, and the value is written as those bytes over others
pub record Pinned {A : Type 0} (c : Codec A) (bytes others written : List ℕ) (v : A) : Type 0 where
  pub read : decode c bytes 0 ≡ v
  pub wrote : encode c others 0 v ≡ written

-- ---- commands: "Class byte 6, command byte, data"

-- pdn, access, start, length, virt
pub register_read_lem : command_of (6 ∷ 7 ∷ 1 ∷ 2 ∷ 3 ∷ 4 ∷ 7 ∷ 0 ∷ 0 ∷ 0 ∷ 5 ∷ 0 ∷ 0 ∷ 0 ∷ 0 ∷ 0 ∷ 0 ∷ 1 ∷ 6 ∷ 0 ∷ 0 ∷ 0 ∷ 0 ∷ 0 ∷ 0 ∷ 2 ∷ 7 ∷ 0 ∷ 0 ∷ 0 ∷ 0 ∷ 0 ∷ 0 ∷ 3 ∷ [])
    ≡ some (Command.register (record { pd = 67305985; access = 7; start = 5 + 2 ^ 56; length = 6 + 2 * 2 ^ 56; virt = 7 + 3 * 2 ^ 56 }))
unfolding fields_at le_at command_of number_codec register_codec create_qp_codec modify_qp_codec
register_read_lem = refl

-- one number
pub number_read_lem : command_of (6 ∷ 2 ∷ 1 ∷ 2 ∷ 3 ∷ 4 ∷ []) ≡ some (Command.create_cq 67305985)
unfolding fields_at le_at command_of number_codec register_codec create_qp_codec modify_qp_codec
number_read_lem = refl

-- pdn, type, signal, 2 ignored, send cqn, receive cqn
pub create_read : command_of (6 ∷ 9 ∷ 1 ∷ 0 ∷ 0 ∷ 0 ∷ 2 ∷ 3 ∷ 99 ∷ 99 ∷ 4 ∷ 0 ∷ 0 ∷ 0 ∷ 5 ∷ 0 ∷ 0 ∷ 0 ∷ [])
    ≡ some (Command.create_qp (record { pd = 1; kind = 2; signal = 3; scq = 4; rcq = 5 }))
unfolding fields_at le_at command_of number_codec register_codec create_qp_codec modify_qp_codec
create_read = refl

-- qpn, mask, state, 3 padding bytes, destination, access flags
pub modify_read : command_of (6 ∷ 10 ∷ 1 ∷ 0 ∷ 0 ∷ 0 ∷ 5 ∷ 128 ∷ 0 ∷ 0 ∷ 2 ∷ 3 ∷ 4 ∷ 5 ∷ 6 ∷ 0 ∷ 0 ∷ 0 ∷ 7 ∷ 0 ∷ 0 ∷ 8 ∷ [])
    ≡ some (Command.modify_qp (record { qpn = 1; mask = 32773; state = 2; pad0 = 3; pad1 = 4; pad2 = 5; dest = 6; flags = 7 + 8 * 2 ^ 24 }))
unfolding fields_at le_at command_of number_codec register_codec create_qp_codec modify_qp_codec
modify_read = refl

-- a number that is no command
pub none_read : command_of (6 ∷ 6 ∷ []) ≡ none
unfolding le_at command_of
none_read = refl

-- ---- acks

-- 02, M-100: the ack byte, then 001's struct of 128 bytes, its rest zero; a byte behind it stays
pub device_ack : encode_ack
    (Device
    (record {
      caps = record { flags = 1 + 2 * 2 ^ 56; region = 3 + 4 * 2 ^ 56; page = 5 + 6 * 2 ^ 56; version = 7 + 8 * 2 ^ 24 };
      work = record { requests = 9 + 10 * 2 ^ 24; sends = 11; receives = 12; reads = 13; entries = 14 };
      objects = record { regions = 15; domains = 16; responses = 17; initiations = 18; handles = 19 + 20 * 2 ^ 24; delay = 21 };
    }))
    (replicate 130 99)
    ≡ 0 ∷ 1 ∷ 0 ∷ 0 ∷ 0 ∷ 0 ∷ 0 ∷ 0 ∷ 2 ∷ 3 ∷ 0 ∷ 0 ∷ 0 ∷ 0 ∷ 0 ∷ 0 ∷ 4 ∷ 5 ∷ 0 ∷ 0 ∷ 0 ∷ 0 ∷ 0 ∷ 0 ∷ 6 ∷ 7 ∷ 0 ∷ 0 ∷ 8 ∷
    9 ∷ 0 ∷ 0 ∷ 10 ∷ 11 ∷ 0 ∷ 0 ∷ 0 ∷ 12 ∷ 0 ∷ 0 ∷ 0 ∷ 13 ∷ 0 ∷ 0 ∷ 0 ∷ 14 ∷ 0 ∷ 0 ∷ 0 ∷
    15 ∷ 0 ∷ 0 ∷ 0 ∷ 16 ∷ 0 ∷ 0 ∷ 0 ∷ 17 ∷ 0 ∷ 0 ∷ 0 ∷ 18 ∷ 0 ∷ 0 ∷ 0 ∷ 19 ∷ 0 ∷ 0 ∷ 20 ∷ 21 ∷ (replicate 59 0 ++ (99 ∷ []))
unfolding put_fields put_le device_codec
device_ack = refl

-- the ack byte, then 001's struct of 32 bytes, its rest zero
pub port_ack : encode_ack (Port (record { gids = 1 + 2 * 2 ^ 24; message = 3 + 4 * 2 ^ 24 })) (replicate 34 99)
    ≡ 0 ∷ 1 ∷ 0 ∷ 0 ∷ 2 ∷ 3 ∷ 0 ∷ 0 ∷ 4 ∷ (replicate 24 0 ++ (99 ∷ []))
unfolding put_fields put_le port_codec
port_ack = refl

-- the bytes that an ack buffer must have: `06 00`, `06 01`, also with data; `06` alone, another class and another command keep 13
pub needs : ack_need (6 ∷ 0 ∷ []) ∷ ack_need (6 ∷ 0 ∷ 9 ∷ []) ∷ ack_need (6 ∷ 1 ∷ []) ∷ ack_need (6 ∷ []) ∷ ack_need (5 ∷ 0 ∷ []) ∷ ack_need (6 ∷ 2 ∷ []) ∷ ack_need [] ∷ []
    ≡ 129 ∷ 129 ∷ 33 ∷ 13 ∷ 13 ∷ 13 ∷ 13 ∷ []
unfolding ack_need command_of le_at
needs = refl

-- ---- work requests

-- two pieces: address 8, length 4, key 4
abbrev pub pieces : List ℕ
pieces =
    1 ∷ 0 ∷ 0 ∷ 0 ∷ 0 ∷ 0 ∷ 0 ∷ 2 ∷ 3 ∷ 0 ∷ 0 ∷ 0 ∷ 4 ∷ 0 ∷ 0 ∷ 0 ∷
    5 ∷ 0 ∷ 0 ∷ 0 ∷ 0 ∷ 0 ∷ 0 ∷ 6 ∷ 7 ∷ 0 ∷ 0 ∷ 0 ∷ 8 ∷ 0 ∷ 0 ∷ 0 ∷ []

abbrev pub pieces_are : List Sge
pieces_are = record { address = 1 + 2 * 2 ^ 56; length = 3; key = 4 } ∷ record { address = 5 + 6 * 2 ^ 56; length = 7; key = 8 } ∷ []

-- wr_id at 0, opcode 8, flags 9, immediate 12, remote address 16, remote key 24, inline bytes 48, piece count 560
abbrev send_bytes : List ℕ
send_bytes =
    (1 ∷ 2 ∷ 0 ∷ 0 ∷ 0 ∷ 0 ∷ 0 ∷ 3 ∷ 3 ∷ 2 ∷ 99 ∷ 99 ∷ 4 ∷ 5 ∷ 6 ∷ 7 ∷ 8 ∷ 0 ∷ 0 ∷ 0 ∷ 0 ∷ 0 ∷ 0 ∷ 9 ∷ 10 ∷ 0 ∷ 0 ∷ 11 ∷ [])
    ++ (replicate 20 99 ++ (50 ∷ 51 ∷ (replicate 510 99 ++ (2 ∷ 0 ∷ 0 ∷ 0 ∷ (replicate 12 99 ++ pieces)))))

pub send_read_lem : decode send_codec send_bytes 0
    ≡ record { wr = 513 + 3 * 2 ^ 56; opcode = 3; flags = 2; imm = 117835012; address = 8 + 9 * 2 ^ 56; key = 10 + 11 * 2 ^ 24; count = 2 }
unfolding fields_at le_at send_codec
send_read_lem = refl

-- "pieces from 576", and the inline bytes as long as the number at 560 says
pub pieces_read : rows 2 (send_sge send_bytes) ≡ pieces_are
unfolding fields_at le_at rows rows_from sge_codec send_sge
pieces_read = refl

pub inline_read : inline_bytes send_bytes ≡ 50 ∷ 51 ∷ []
unfolding le_at inline_bytes inline_length
inline_read = refl

-- wr_id 0, count 8, "pieces from 24"
pub receive_read_lem : receive_sges (decode receive_codec (1 ∷ 0 ∷ 0 ∷ 0 ∷ 0 ∷ 0 ∷ 0 ∷ 2 ∷ 2 ∷ 0 ∷ 0 ∷ 0 ∷ (replicate 12 99 ++ pieces)) 0) ≡ pieces_are
unfolding fields_at le_at receive_codec receive_sges
receive_read_lem = refl

-- wr_id, status, opcode, zero, byte length, immediate, owner; a byte behind it stays
pub completion : Pinned completion_codec
    (1 ∷ 2 ∷ 0 ∷ 0 ∷ 0 ∷ 0 ∷ 0 ∷ 3 ∷ 4 ∷ 5 ∷ 99 ∷ 99 ∷ 6 ∷ 0 ∷ 0 ∷ 1 ∷ 7 ∷ 0 ∷ 0 ∷ 2 ∷ 8 ∷ 0 ∷ 0 ∷ 3 ∷ []) (replicate 25 99)
    (1 ∷ 2 ∷ 0 ∷ 0 ∷ 0 ∷ 0 ∷ 0 ∷ 3 ∷ 4 ∷ 5 ∷ 0 ∷ 0 ∷ 6 ∷ 0 ∷ 0 ∷ 1 ∷ 7 ∷ 0 ∷ 0 ∷ 2 ∷ 8 ∷ 0 ∷ 0 ∷ 3 ∷ 99 ∷ [])
    (record { wr = 513 + 3 * 2 ^ 56; status = 4; opcode = 5; length = 6 + 2 ^ 24; imm = 7 + 2 * 2 ^ 24; owner = 8 + 3 * 2 ^ 24 })
unfolding fields_at put_fields le_at put_le completion_codec
completion = record { read = refl; wrote = refl }

-- ---- rows of the lent state

-- places, first, count
pub queue_row : Pinned queue_codec (1 ∷ 2 ∷ 3 ∷ 99 ∷ []) (replicate 5 99) (1 ∷ 2 ∷ 3 ∷ 0 ∷ 99 ∷ []) (record { places = 1; first = 2; count = 3 })
unfolding fields_at put_fields le_at put_le queue_codec
queue_row = record { read = refl; wrote = refl }

-- access, variant, pd, kind, start, length, virt
pub region_row_lem : Pinned region_codec
    (1 ∷ 2 ∷ 3 ∷ 7 ∷ 99 ∷ 99 ∷ 99 ∷ 99 ∷ 4 ∷ 0 ∷ 0 ∷ 0 ∷ 0 ∷ 0 ∷ 0 ∷ 1 ∷ 5 ∷ 0 ∷ 0 ∷ 0 ∷ 0 ∷ 0 ∷ 0 ∷ 2 ∷ 6 ∷ 0 ∷ 0 ∷ 0 ∷ 0 ∷ 0 ∷ 0 ∷ 3 ∷ []) (replicate 33 99)
    (1 ∷ 2 ∷ 3 ∷ 7 ∷ 99 ∷ 99 ∷ 99 ∷ 99 ∷ 4 ∷ 0 ∷ 0 ∷ 0 ∷ 0 ∷ 0 ∷ 0 ∷ 1 ∷ 5 ∷ 0 ∷ 0 ∷ 0 ∷ 0 ∷ 0 ∷ 0 ∷ 2 ∷ 6 ∷ 0 ∷ 0 ∷ 0 ∷ 0 ∷ 0 ∷ 0 ∷ 3 ∷ 99 ∷ [])
    (record { access = 1; variant = 2; pd = 3; kind = 7; start = 4 + 2 ^ 56; length = 5 + 2 * 2 ^ 56; virt = 6 + 3 * 2 ^ 56 })
unfolding fields_at put_fields le_at put_le region_codec
region_row_lem = record { read = refl; wrote = refl }

-- a page number
pub page_row : Pinned page_codec (1 ∷ 2 ∷ []) (replicate 3 99) (1 ∷ 2 ∷ 99 ∷ []) 513
unfolding fields_at put_fields le_at put_le page_codec
page_row = record { read = refl; wrote = refl }

-- pd, signal, send cqn, receive cqn, state, destination, rights
pub pair_row : Pinned pair_codec (1 ∷ 2 ∷ 3 ∷ 4 ∷ 5 ∷ 6 ∷ 7 ∷ 99 ∷ []) (replicate 9 99) (1 ∷ 2 ∷ 3 ∷ 4 ∷ 5 ∷ 6 ∷ 7 ∷ 0 ∷ 99 ∷ [])
    (record { pd = 1; signal = 2; scq = 3; rcq = 4; state = 5; dest = 6; rights = 7 })
unfolding fields_at put_fields le_at put_le pair_codec
pair_row = record { read = refl; wrote = refl }

-- first, count
pub waiting_row : Pinned waiting_codec (1 ∷ 2 ∷ []) (replicate 3 99) (1 ∷ 2 ∷ 99 ∷ []) (record { first = 1; count = 2 })
unfolding fields_at put_fields le_at put_le waiting_codec
waiting_row = record { read = refl; wrote = refl }

-- opcode, flags, count
pub kind_row : Pinned kind_codec (1 ∷ 2 ∷ 3 ∷ 4 ∷ []) (replicate 5 99) (1 ∷ 2 ∷ 3 ∷ 4 ∷ 99 ∷ []) (record { opcode = 1; flags = 2; count = 1027 })
unfolding fields_at put_fields le_at put_le kind_codec
kind_row = record { read = refl; wrote = refl }

-- where each table begins, and the state's length: docs/STATE.md
pub bases : turn_base ∷ pd_flag_base ∷ cq_flag_base ∷ cq_base ∷ entry_base ∷ mr_flag_base ∷ mr_base ∷ page_base ∷ qp_flag_base ∷ qp_base ∷ waiting_base ∷ receive_base ∷ send_head_base ∷ kind_base ∷ record_base ∷ state_size ∷ []
    ≡ 8 ∷ 16 ∷ 24 ∷ 32 ∷ 64 ∷ 3136 ∷ 3392 ∷ 11584 ∷ 19776 ∷ 19784 ∷ 19848 ∷ 19864 ∷ 21656 ∷ 21672 ∷ 21928 ∷ 62888 ∷ []
bases = refl
