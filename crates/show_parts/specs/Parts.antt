-- The parts of a show file, as the book is fed them.
use Rattle.std.specs.Prelude.{ℕ, zero, suc, ◌+◌, List, [], ◌∷◌, false}
use Rattle.book.specs.Book.{Packet, packet_of}
use Rattle.show_header.specs.Header.{part_of}

-- part k as the show reads it: from bit 0, recording off, no words lent
abbrev pub packet : List ℕ → ℕ → Packet
packet file k = packet_of (part_of file k) 0 false []

-- the n parts from k on
unfoldable pub packets : List ℕ → ℕ → ℕ → List Packet
packets file zero k = []
packets file (suc n) k = packet file k ∷ packets file n (k + 1)
