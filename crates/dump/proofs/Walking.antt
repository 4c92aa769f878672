-- A log's text, item by item. Idea: what is written so far, and the text of the items that are left, are the whole text.
use Rattle.std.proofs.Common.{◌≡◌, ℕ, ◌+◌, ◌≤◌, true, ltb, List, [], ◌∷◌, ◌++◌, length, Some, None, Ok, Err, Option, All, refl, sym, ap, ◌∙◌, append_assoc, arith}
use Rattle.std.proofs.lemmas.Bool.{and_parts}
use Rattle.std.proofs.lemmas.List.Elements.{All-head, All-rest, All-same}
use Rattle.records.specs.Values.{RecordValue}
use Rattle.records.specs.Writing.{map_of, in_range, is_record, word_fits, encode}
use Rattle.records.specs.Logs.{LogFault, log_of}
use Rattle.records.specs.Items.{Item, IsWritable, items_from, items_of}
use Rattle.dump.specs.Lines.{line_of, lines_from, last_line, text_of}

-- the text of items, where the first of them has this index
abbrev items_text : (index : ℕ) → List Item → List ℕ
items_text index [] = last_line index None
items_text index (Ok p ∷ items) = line_of index p.1 ++ items_text (index + 1) items
items_text index (Err f ∷ items) = last_line index (Some f)

-- which is how specs/ says a log's text
text_by_items : (index offset : ℕ) (rs : List RecordValue) (f : Option LogFault) →
    lines_from index rs ++ last_line (index + length rs) f ≡ items_text index (items_from offset rs f)
text_by_items index offset [] None = ap (λ n. last_line n None) (omega arith)
text_by_items index offset [] (Some f) = refl
text_by_items index offset (r ∷ rs) f =
    append_assoc (line_of index r) (lines_from (index + 1) rs) (last_line (index + length (r ∷ rs)) f)
    ∙ ap (λ n. line_of index r ++ (lines_from (index + 1) rs ++ last_line n f)) (omega arith)
    ∙ ap (λ text. line_of index r ++ text) (text_by_items (index + 1) (offset + length (encode r)) rs f)

-- where these items are left of a log, and the text was once `was` and is now `so`
pub record SoFar (was so log : List ℕ) (count : ℕ) (items : List Item) : Type 0 where
  pub few : count + length items ≤ length log
  pub writable : All IsWritable items
  pub whole : was ++ text_of (log_of log) ≡ so ++ items_text count items

pub begun : (was log : List ℕ) (items : List Item) → items ≡ items_of (log_of log) → length items ≤ length log → All IsWritable items →
    SoFar was was log 0 items
begun was log items e few writable =
    let all = log_of log in
    record {
      few = omega arith;
      writable = writable;
      whole = ap (λ text. was ++ text) (text_by_items 0 0 all.records all.fault ∙ ap (items_text 0) (sym e));
    }

-- what can be written has a flight word or none
pub flight_fits : (r : RecordValue) → is_record r ≡ true → word_fits r.flight ≡ true
flight_fits r h = (and_parts _ (word_fits r.flight) (and_parts (ltb 0 (map_of r)) (in_range r) h).1).1

-- at a record
module _ (was so log : List ℕ) (count : ℕ) (items others : List Item) (offset : ℕ) (r : RecordValue) (s : SoFar was so log count items) (e : items ≡ Ok (offset, r) ∷ others) where
  pub more : (after : List ℕ) → after ≡ so ++ line_of count r → SoFar was after log (count + 1) others
  more after written = record {
    few = omega (arith, s.few, ap length e);
    writable = All-rest IsWritable (Ok (offset, r)) others items e s.writable;
    whole = s.whole ∙ ap (λ left. so ++ items_text count left) e ∙ sym (append_assoc so (line_of count r) (items_text (count + 1) others))
        ∙ ap (λ text. text ++ items_text (count + 1) others) (sym written);
  }

  pub next_fits : word_fits r.flight ≡ true
  next_fits = flight_fits r (All-head IsWritable (Ok (offset, r)) others (All-same IsWritable (Ok (offset, r) ∷ others) items (sym e) s.writable))
