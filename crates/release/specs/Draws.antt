-- The ranges of draws and thresholds.
use Rattle.std.specs.Prelude.{ℕ, Bool, ◌&&◌, nat_le, List, ℤ, pos, negsuc, int_le}
use Rattle.std.specs.List.{list_all}

-- whether a draw, an own or a shared one, is at most 1,073,741,824 either way
abbrev pub draw_in_range : ℤ → Bool
draw_in_range d = int_le (negsuc 1_073_741_823) d && int_le d (pos 1_073_741_824)

-- whether the shared draw and every own draw are in range
abbrev pub noise_in_range : (shared : ℤ) (draws : List ℤ) → Bool
noise_in_range shared draws = draw_in_range shared && list_all draw_in_range draws

-- whether a threshold is 1 to 1,073,741,824
abbrev pub threshold_in_range : ℕ → Bool
threshold_in_range t = nat_le 1 t && nat_le t 1_073_741_824
