-- The order of each kind that is made from numbers or bytes.
use Rattle.std.specs.Prelude.{Bool, nat_lt}
use Rattle.keys.specs.declared.event.EventKind.{EventKind}
use Rattle.keys.specs.declared.prefix.Prefix.{Prefix}
use Rattle.keys.specs.declared.word.FlightWord.{FlightWord}
use Rattle.keys.specs.Orders.{by_parts}
use Rattle.keys.specs.Words.{less_word}
use Rattle.keys.specs.Values.{bytes_of}

-- event kinds by size
abbrev pub less_event : EventKind → EventKind → Bool
less_event a b = nat_lt a.number b.number

-- prefixes by address as a number, then by length
abbrev pub less_prefix : Prefix → Prefix → Bool
less_prefix a b = by_parts nat_lt nat_lt a.address a.bits b.address b.bits

-- flight words by their bytes
abbrev pub less_flight : FlightWord → FlightWord → Bool
less_flight a b = less_word (bytes_of a) (bytes_of b)
