-- Document 01's limits, two of them as 02, M-106, raises them, and those of M-105's page lists. Assumes nothing.
use Rattle.std.specs.Prelude.{ℕ, ◌-◌, ◌^◌}

-- the tables: "8 domains (PD), 8 completion queues (CQ) of 1 to 16 places, .. regions (MR), 8 queue pairs (QP), each with up to 4 waiting receives"
abbrev pub pd_count : ℕ
pd_count = 8

abbrev pub cq_count : ℕ
cq_count = 8

abbrev pub most_places : ℕ
most_places = 16

-- 02, M-106: "Raise regions from 32 to 256"
abbrev pub mr_count : ℕ
mr_count = 256

abbrev pub qp_count : ℕ
qp_count = 8

abbrev pub most_waiting : ℕ
most_waiting = 4

-- 02, M-108: "Each QP gets a queue of 8 send records"
abbrev pub most_queued : ℕ
most_queued = 8

-- the longest send record, of four pieces
abbrev pub record_size : ℕ
record_size = 640

-- 02, M-106: "and memory from 1,048,576 to 16,777,216 bytes"
abbrev pub most_memory : ℕ
most_memory = 16777216

-- 02, M-105: "a page's first byte in the lent memory, a multiple of 4096", "at most 16"
abbrev pub page_size : ℕ
page_size = 4096

abbrev pub most_pages : ℕ
most_pages = 16

-- "virt + length over 2^64 − 1"
abbrev pub most_address : ℕ
most_address = 2 ^ 64 - 1

-- "Total .. over 4,096"
abbrev pub most_message : ℕ
most_message = 4096

-- a send's pieces and inline bytes, a receive's pieces
abbrev pub most_sges : ℕ
most_sges = 4

abbrev pub most_inline : ℕ
most_inline = 512

abbrev pub most_receive_sges : ℕ
most_receive_sges = 2

-- access bits: "1 local write, 2 remote write, 4 remote read"
abbrev pub local_write : ℕ
local_write = 1

abbrev pub remote_write : ℕ
remote_write = 2

abbrev pub most_access : ℕ
most_access = 7
