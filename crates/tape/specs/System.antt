-- What calls of the system did for a program: the words of its command line, files opened, bytes read. Assumes nothing.
use Rattle.std.specs.Prelude.{◌≡◌, Bool, true, false, List, [], ◌++◌, ℕ, ◌<◌, eqb, ℤ, pos, negsuc, length, take}

-- ---- one call

pub data Event : Type 0 where
  -- the program was started with so many words, its own name among them
  words : (count : ℕ) → Event
  -- word i, asked for with room for so many bytes; no bytes where it is missing or longer
  word : (i room : ℕ) → (text : List ℕ) → Event
  -- opening the file of that name for reading gave the descriptor; a name that is no text is not asked for, and gives −1
  opened : (name : List ℕ) → (file : ℤ) → Event
  -- a read of the file gave the answer, and left its buffer so; a negative descriptor is not asked for, and its read fails
  read : (file answer : ℤ) → (buffer : List ℕ) → Event

-- The call was made and did that. No contract of the library says so, and this is shut: a proof has it of the function that
-- made the call alone. So what is proved from it holds for any meaning that those functions keep; tests/audit/run looks at
-- where `by_call` is cited.
pub Happened : Event → Type 0
Happened e = Unit {0}

pub by_call : (e : Event) → Happened e
unfolding Happened
by_call e = tt

-- ---- a tape, by the reads of its file

-- the bytes that reads of the file gave, one behind the other, and whether the last, with room for a byte, gave none: the end
pub data BytesOf (file : ℤ) : (bytes : List ℕ) → (ended : Bool) → Type 0 where
  unread : BytesOf file [] false
  more : {bytes : List ℕ} (buffer : List ℕ) (n : ℕ) → BytesOf file bytes false → Happened (Event.read file (pos n) buffer)
      → 0 < length buffer
      → BytesOf file (bytes ++ take n buffer) (eqb n 0)

-- a read of it failed
abbrev pub Unreadable : (file : ℤ) → Type 0
Unreadable file = (k : ℕ) × (buffer : List ℕ) × Happened (Event.read file (negsuc k) buffer)

-- a tape of which those bytes are the first, and all where its end was found
abbrev pub Continues : (tape bytes : List ℕ) → (ended : Bool) → Type 0
Continues t b e = (rest : List ℕ) × (t ≡ b ++ rest) × (e ≡ true → rest ≡ [])

-- ---- the command line

-- the file that word i names was opened
abbrev pub Opens : (i : ℕ) → (file : ℤ) → Type 0
Opens i file = (name : List ℕ) × Happened (Event.word i 4096 name) × Happened (Event.opened name file)
