-- The map byte and its bits; four bytes and their number. Idea: each field adds its weight once or not at all, so the map
-- is a sum that arithmetic takes apart.
use Rattle.std.proofs.Common.{◌≡◌, ℕ, ◌+◌, ◌*◌, ◌/◌, ◌%◌, ◌<◌, ◌≤◌, eqb, [], ◌∷◌, is_some, Some, None, Option, sym, refl, ap, ◌∙◌, arith}
use Rattle.std.proofs.lemmas.Bool.{eqb-true, eqb-false}
use Rattle.records.specs.Fields.{join}
use Rattle.records.specs.Values.{RecordValue}
use Rattle.records.specs.Reading.{bit}
use Rattle.records.specs.Writing.{weight, map_of, encode_four}

pub join_split : (v : ℕ) → join (v / 16_777_216) (v / 65_536 % 256) (v / 256 % 256) (v % 256) ≡ v
join_split v = omega arith

pub split_join : (a b c d : ℕ) → a < 256 → b < 256 → c < 256 → d < 256 → encode_four (Some (join a b c d)) ≡ a ∷ b ∷ c ∷ d ∷ []
split_join a b c d ka kb kc kd =
    let p : join a b c d / 16_777_216 ≡ a = omega arith in
    let q : join a b c d / 65_536 % 256 ≡ b = omega arith in
    let r : join a b c d / 256 % 256 ≡ c = omega arith in
    let s : join a b c d % 256 ≡ d = omega arith in
    cc

-- 1 if the field is there
abbrev one : {A : Type 0} → Option A → ℕ
one (Some x) = 1
one None = 0

weight_one : {A : Type 0} (f : Option A) (w : ℕ) → weight f w ≡ w * one f
weight_one (Some x) w = omega arith
weight_one None w = omega arith

one_small : {A : Type 0} (f : Option A) → one f ≤ 1
one_small (Some x) = omega arith
one_small None = omega arith

one_is : {A : Type 0} (f : Option A) → eqb (one f) 1 ≡ is_some f
one_is (Some x) = refl
one_is None = refl

one_from : {A : Type 0} (f : Option A) (n : ℕ) → n ≤ 1 → eqb n 1 ≡ is_some f → one f ≡ n
one_from (Some x) n l e = sym (eqb-true n 1 e)
one_from None n l e = omega (arith, eqb-false n 1 e)

-- the map as five bits, each 0 or 1
record MapBits (r : RecordValue) : Type 0 where
  is : map_of r ≡ one r.time + 2 * one r.kind + 4 * one r.console + 8 * one r.source + 16 * one r.flight
  time : one r.time ≤ 1
  kind : one r.kind ≤ 1
  console : one r.console ≤ 1
  source : one r.source ≤ 1
  flight : one r.flight ≤ 1

map_bits : (r : RecordValue) → MapBits r
map_bits r = record {
  is = omega (arith, weight_one r.time 1, weight_one r.kind 2, weight_one r.console 4, weight_one r.source 8, weight_one r.flight 16);
  time = one_small r.time;
  kind = one_small r.kind;
  console = one_small r.console;
  source = one_small r.source;
  flight = one_small r.flight;
}

module _ (r : RecordValue) where
  pub map_small : map_of r ≤ 31
  map_small = let m = map_bits r in omega arith

  pub bit_time : bit (map_of r) 1 ≡ is_some r.time
  bit_time = let m = map_bits r in ap (λ n. eqb n 1) (omega arith) ∙ one_is r.time

  pub bit_kind : bit (map_of r) 2 ≡ is_some r.kind
  bit_kind = let m = map_bits r in ap (λ n. eqb n 1) (omega arith) ∙ one_is r.kind

  pub bit_console : bit (map_of r) 4 ≡ is_some r.console
  bit_console = let m = map_bits r in ap (λ n. eqb n 1) (omega arith) ∙ one_is r.console

  pub bit_source : bit (map_of r) 8 ≡ is_some r.source
  bit_source = let m = map_bits r in ap (λ n. eqb n 1) (omega arith) ∙ one_is r.source

  pub bit_flight : bit (map_of r) 16 ≡ is_some r.flight
  bit_flight = let m = map_bits r in ap (λ n. eqb n 1) (omega arith) ∙ one_is r.flight

  -- a map whose bits are the fields' is the record's
  pub map_from : (m : ℕ) → m ≤ 31 → bit m 1 ≡ is_some r.time → bit m 2 ≡ is_some r.kind → bit m 4 ≡ is_some r.console →
      bit m 8 ≡ is_some r.source → bit m 16 ≡ is_some r.flight → map_of r ≡ m
  map_from m l t k o s w =
      omega (
        arith,
        (map_bits r).is,
        one_from r.time (m / 1 % 2) (omega arith) t,
        one_from r.kind (m / 2 % 2) (omega arith) k,
        one_from r.console (m / 4 % 2) (omega arith) o,
        one_from r.source (m / 8 % 2) (omega arith) s,
        one_from r.flight (m / 16 % 2) (omega arith) w,
      )
