-- What the parts of the code's log hold.
use Rattle.std.specs.Prelude.{ℕ, ◌<◌, ◌≤◌, List, slice_index, slice_index_or}
use Rattle.std.proofs.Common.{lit≤}
use Rattle.stamps.specs.Numbers.{sites}
use Rattle.versions.specs.declared.version.Version.{Version}
use Rattle.store.specs.Holding.{registered}
use Rattle.store.specs.Queues.{items_of}
use Rattle.store.specs.declared.queue.Queue.{Queue}
use Rattle.store.specs.declared.registers.Registers.{Registers}
use Rattle.shared_log.specs.Log.{LogState}
use Rattle.shared_log.specs.Numbers.{stride_limit, tail_limit}
use Rattle.shared_log.specs.declared.readers.Reader.{Reader}
use Rattle.shared_log.specs.declared.readers.Readers.{Readers}
use Rattle.shared_log.specs.declared.strides.Strides.{Strides}

-- each number is 1 to 8
abbrev pub AreStrides : List ℕ → Type 0
AreStrides numbers = (site : ℕ) → site < sites → (1 ≤ slice_index numbers site) × (slice_index numbers site ≤ stride_limit)

-- the stride of each site
abbrev pub stride_of : Strides → ℕ → ℕ
stride_of s site = slice_index s.strides site

-- what stands where there is no site: it reads nothing
abbrev pub no_reader : Reader
no_reader = record { read = 0; stride = 0; few = lit≤ tt }

-- how many versions of the tail the reader of a site has read, and how many more it reads with a tick
abbrev pub read_in : List Reader → ℕ → ℕ
read_in readers site = (slice_index_or readers site no_reader).read

abbrev pub stride_in : List Reader → ℕ → ℕ
stride_in readers site = (slice_index_or readers site no_reader).stride

-- so it is with the readers of a log: the positions and the strides
abbrev pub position_of : Readers → ℕ → ℕ
position_of r = read_in r.readers

abbrev pub stride_at : Readers → ℕ → ℕ
stride_at r = stride_in r.readers

-- the state that the parts of a log make
abbrev pub state_of : Registers → Queue Version tail_limit → Readers → LogState
state_of base tail readers =
    record { base = registered base; tail = items_of tail; position = position_of readers; stride = stride_at readers }
