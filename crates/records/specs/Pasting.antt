-- Bytes written at a place of the output.
use Rattle.std.specs.Prelude.{ℕ, ◌+◌, List, ◌++◌, length, take, drop}

-- xs written over what stands at a place
unfoldable pub pasted : List ℕ → ℕ → List ℕ → List ℕ
pasted out at xs = take at out ++ (xs ++ drop (at + length xs) out)
