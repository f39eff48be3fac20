-- Page lists, computed: which list is accepted, which is refused with which answer, and what byte an address means. Assumes nothing.
use mathlib.Core.Path.{◌≡◌, refl}
use mathlib.Core.Bool.{true}
use mathlib.Core.List.{List, [], ◌∷◌, ◌++◌, map}
use mathlib.Core.Option.{Option, none, some}
use Prim.Native.Nat.{ℕ, ◌-◌, ◌^◌}
use lib.ListN.{replicate, take}
use Rattle.wire.specs.Checks.{refusal}
use Rattle.wire.specs.Codec.{fields_at}
use Rattle.wire.specs.Le.{le_at}
use Rattle.wire.specs.Scan.{all, lowest, lowest_from}
use Rattle.wire.specs.Slots.{upd}
use Rattle.tables.specs.Card.{Card, fresh, with_pd, with_mr}
use Rattle.tables.specs.Commands.{register_codec}
use Rattle.tables.specs.State.{pages_needed}
use Rattle.tables.specs.declared.Registration.{Registration}
use Rattle.rules.specs.Call.{Call}
use Rattle.rules.specs.Calls.{checks}
use Rattle.rules.specs.Pages.{page_record_checks, page_list_checks}
use Rattle.rules.specs.Touch.{byte_in, byte_of}

-- a card with a memory of so many bytes and domain 0
abbrev sized : ℕ → Card
sized memory = with_pd (fresh memory) (upd (fresh memory).pd 0 true)

abbrev region : (start length virt : ℕ) → Registration
region s n v = record { pd = 0; access = 7; start = s; length = n; virt = v }

abbrev asked : (memory start length : ℕ) → (pages : List ℕ) → Option ℕ
asked memory s n ps = refusal (page_list_checks (sized memory) (region s n 0) ps)

-- one page, whole and its last byte; two pages in any order; one page twice; 16 pages longer than the memory
pub accepted : asked 8192 0 4096 (4096 ∷ []) ∷ asked 8192 4095 1 (0 ∷ []) ∷ asked 8192 4095 2 (4096 ∷ 0 ∷ []) ∷
    asked 4096 1 4096 (0 ∷ 0 ∷ []) ∷ asked 4096 0 65536 (replicate 16 0) ∷ []
    ≡ none ∷ none ∷ none ∷ none ∷ none ∷ []
unfolding page_list_checks pages_needed all lowest lowest_from
accepted = refl

-- no page; a page too few, and one too many; a start past the first page; no multiple; a last part page; an end that would wrap
pub refused : asked 8192 0 1 [] ∷ asked 8192 4095 2 (0 ∷ []) ∷ asked 8192 0 4096 (0 ∷ 4096 ∷ []) ∷ asked 8192 4096 1 (0 ∷ 4096 ∷ []) ∷
    asked 8192 0 1 (1 ∷ []) ∷ asked 5000 0 1 (4096 ∷ []) ∷ asked 8192 0 1 ((2 ^ 64 - 4096) ∷ []) ∷ []
    ≡ some 11 ∷ some 11 ∷ some 11 ∷ some 11 ∷ some 11 ∷ some 11 ∷ some 11 ∷ []
unfolding page_list_checks pages_needed all lowest lowest_from
refused = refl

-- no byte, with no page and with one
pub empty : asked 8192 0 0 [] ∷ asked 8192 1 0 (0 ∷ []) ∷ [] ≡ some 11 ∷ some 11 ∷ []
unfolding page_list_checks pages_needed all lowest lowest_from
empty = refl

-- a need of 17 pages, with 17; a length whose sum with the start passes 2^64, with the pages that a sum that wraps would need
pub too_long : asked 8192 1 65536 (replicate 17 0) ∷ asked 8192 4095 (2 ^ 64 - 1) (0 ∷ []) ∷ asked 8192 1 (2 ^ 64 - 1) [] ∷ []
    ≡ some 11 ∷ some 11 ∷ some 11 ∷ []
unfolding page_list_checks pages_needed all lowest lowest_from
too_long = refl

-- 12 ack bytes, though the record names a query
pub short : refusal (page_record_checks (6 ∷ 0 ∷ []) (replicate 12 0)) ≡ some 12
unfolding page_record_checks
short = refl

abbrev read : (command : List ℕ) → Option ℕ
read k = refusal (page_record_checks k (replicate 13 0))

-- with 13: one byte; another class; another command, and a query; a byte of data alone
pub records : read (6 ∷ []) ∷ read (5 ∷ 7 ∷ []) ∷ read (6 ∷ 4 ∷ []) ∷ read (6 ∷ 0 ∷ []) ∷ read (6 ∷ 7 ∷ 0 ∷ []) ∷ []
    ≡ some 1 ∷ some 13 ∷ some 13 ∷ some 13 ∷ some 1 ∷ []
unfolding page_record_checks register_codec le_at
records = refl

-- the record of a region of one byte in domain 0, with this access
abbrev recorded : (access : ℕ) → List ℕ
recorded a = 6 ∷ 7 ∷ (replicate 4 0 ++ (a ∷ (replicate 11 0 ++ (1 ∷ replicate 15 0))))

-- a card with no slot left
abbrev full : Card
full = with_mr (sized 8192) (λ n. record { live = true; variant = 1; reg = region 0 1 0; pages = [] })

abbrev called : Card → (command pages : List ℕ) → (room : ℕ) → Option ℕ
called c k ps n = refusal (checks c (Call.register_pages k ps (replicate n 0)))

-- the order of the whole call, each refusal where a later test refuses too: 12, under two bytes 1, 13, data length 1, 4, 2, 11; then 8, and done
pub ordered : called (fresh 8192) (6 ∷ []) (1 ∷ []) 12 ∷ called (fresh 8192) (5 ∷ []) (1 ∷ []) 13 ∷ called (fresh 8192) (5 ∷ 7 ∷ []) (1 ∷ []) 13 ∷
    called (fresh 8192) (take 33 (recorded 8)) (1 ∷ []) 13 ∷ called (fresh 8192) (recorded 8) (1 ∷ []) 13 ∷ called (fresh 8192) (recorded 7) (1 ∷ []) 13 ∷
    called full (recorded 7) (1 ∷ []) 13 ∷ called full (recorded 7) (0 ∷ []) 13 ∷ called (sized 8192) (recorded 7) (0 ∷ []) 13 ∷ []
    ≡ some 12 ∷ some 1 ∷ some 13 ∷ some 1 ∷ some 4 ∷ some 2 ∷ some 11 ∷ some 8 ∷ none ∷ []
unfolding checks page_record_checks page_list_checks pages_needed register_codec fields_at le_at all lowest lowest_from
ordered = refl

-- a region over three pages, the third of them the first again, that starts 2 bytes before the end of its first: the bytes at both borders, and
-- one byte that two addresses mean
pub places : map (byte_of (4096 ∷ 0 ∷ 4096 ∷ []) (region 4094 8194 4096)) (4096 ∷ 4097 ∷ 4098 ∷ 8193 ∷ 8194 ∷ 12288 ∷ [])
    ≡ 8190 ∷ 8191 ∷ 0 ∷ 4095 ∷ 4096 ∷ 8190 ∷ []
unfolding byte_in byte_of
places = refl

-- the same of adjacent bytes
pub adjacent : map (byte_of [] (region 4094 8194 4096)) (4096 ∷ 4097 ∷ 4098 ∷ 12288 ∷ []) ≡ 4094 ∷ 4095 ∷ 4096 ∷ 12286 ∷ []
unfolding byte_in byte_of
adjacent = refl
