-- What is read of an input line by line: the sizes, and the first group.
use Prim.Native.Nat.{ℕ, zero, suc, ◌+◌, ◌-◌, ◌≤◌, ◌<◌, min}
use mathlib.Core.Path.{◌≡◌, refl, sym, ap, ◌∙◌}
use mathlib.Core.Bool.{Bool, true, false}
use mathlib.Core.List.{List, []}
use native.Mathlib.Nat.{add-zero}
use native.Mathlib.Omega.{arith}
use native.Mathlib.Decide.{dec_lt}
use native.Mathlib.Numerals.{add-one}
use lib.Dec.{eqb}
use lib.ListN.{length, take, drop, length-drop}
use lib.Seq.{drop-drop, get_or-drop, take-take}
use Rattle.std.proofs.lemmas.List.{drop-take}
use Rattle.std.proofs.Math.Seq.{take-append_seam, drop-append_seam}
use Rattle.model.specs.Layout.{layout_of}
use Rattle.text.specs.Text.{Line, lines_of}
use Rattle.text.specs.Read.{line_length, SplitsLine}
use Rattle.text.proofs.LineLaws.{line_length_is, first_length}
use Rattle.lines.specs.declared.Key.{Key}
use Rattle.lines.specs.declared.Key.TheVariants.{Mains, Backups, Blocks, Main, Block, Offset, Bytes, Checkpoint}
use Rattle.lines.specs.Line.{name, named, value_of, number_in}
use Rattle.parser.specs.Script.{line_at, group_of, default_backups, blocks_line, sizes_of}
use Rattle.parser.specs.declared.HeaderAt.{HeaderAt}
use Rattle.parser.specs.declared.GroupAt.{GroupAt}
use Rattle.parser.specs.Read.{line_start, value_start, value_end, ReadsHeader, HeaderStands, ReadsGroup, GroupStands}

-- ---- line i of some lines, where the lines before it are passed

module _ {input line rest : List ℕ} (ls : List Line) (i : ℕ) (h : lines_of input ≡ drop i ls) (s : SplitsLine input line rest) where
  pub past_line : lines_of rest ≡ drop (suc i) ls
  past_line = s.others ∙ ap (drop 1) h ∙ drop-drop 1 i ls ∙ ap (λ (n : ℕ). drop n ls) (add-one i)

  pub line_is : line ≡ line_at ls i
  line_is = s.first ∙ ap (λ (l : List Line). line_at l 0) h ∙ get_or-drop i ls 0 [] ∙ ap (line_at ls) (add-zero i)

  -- the number in it
  line_number : (k : Key) {n : ℕ} → n ≡ number_in k line → n ≡ number_in k (line_at ls i)
  line_number k q = q ∙ ap (number_in k) line_is

-- ---- where the lines of an input stand

start_more : (input : List ℕ) (i : ℕ) → line_start input i ≤ line_start input (suc i)
unfolding line_start
start_more input i = omega arith

start_inside : (input : List ℕ) (i : ℕ) → line_start input i ≤ length input
unfolding line_start
start_inside input zero = omega arith
start_inside input (suc i) =
    let rest = drop (line_start input i) input in
    omega (arith, start_inside input i, length-drop (line_start input i) input, line_length_is rest)

-- what stands behind n bytes of a part of m bytes, and before its last, stands there in the whole
value_part : (p m n : ℕ) (whole : List ℕ) → let s : ℕ = min (p + n) (p + m) in
    take (m - 1 - n) (drop n (take m (drop p whole))) ≡ take (s + (p + m - p - 1 - n) - s) (drop s whole)
value_part p m n whole = go (dec_lt m n)
  where
    go : Dec (m < n) → let s : ℕ = min (p + n) (p + m) in take (m - 1 - n) (drop n (take m (drop p whole))) ≡ take (s + (p + m - p - 1 - n) - s) (drop s whole)
    go (yes a) =
        let x : m - 1 - n ≡ 0 = omega arith in
        let y : min (p + n) (p + m) + (p + m - p - 1 - n) - min (p + n) (p + m) ≡ 0 = omega arith in
        rw (x, y) refl
    go (no a) =
        let x : min (p + n) (p + m) + (p + m - p - 1 - n) - min (p + n) (p + m) ≡ m - 1 - n = omega arith in
        let y : min (p + n) (p + m) ≡ p + n = omega arith in
        let e : m ≡ n + (m - n) = omega arith in
        let u : m - 1 - n ≤ m - n = omega arith in
        ap (λ (k : ℕ). take (m - 1 - n) (drop n (take k (drop p whole)))) e
        ∙ ap (take (m - 1 - n)) (drop-take n (m - n) (drop p whole))
        ∙ take-take (m - 1 - n) (m - n) (drop n (drop p whole)) u
        ∙ ap (take (m - 1 - n)) (drop-drop n p whole)
        ∙ sym (ap (λ (k : ℕ). take k (drop (min (p + n) (p + m)) whole)) x ∙ ap (λ (k : ℕ). take (m - 1 - n) (drop k whole)) y)

first_start : (input : List ℕ) → input ≡ drop (line_start input 0) input
unfolding line_start
first_start input = refl

module _ (whole : List ℕ) (i : ℕ) {input line rest : List ℕ} (h : input ≡ drop (line_start whole i) whole) (s : SplitsLine input line rest) where
  line_size : length line ≡ line_length input
  line_size = ap length s.first ∙ first_length input

  -- behind line i stands the next
  pub past_start : rest ≡ drop (line_start whole (suc i)) whole
  unfolding line_start
  past_start =
      sym (drop-append_seam line rest) ∙ ap (drop (length line)) (sym s.joined) ∙ ap (λ (n : ℕ). drop n input) line_size
      ∙ ap (λ (l : List ℕ). drop (line_length l) l) h
      ∙ drop-drop (line_length (drop (line_start whole i) whole)) (line_start whole i) whole

  -- the value in it
  line_value : (k : Key) {v : List ℕ} → v ≡ value_of k line → v ≡ take (value_end k whole i - value_start k whole i) (drop (value_start k whole i) whole)
  unfolding line_start value_of
  line_value k q =
      let p = line_start whole i in
      let m = line_length (drop p whole) in
      let e : line ≡ take m (drop p whole) =
      sym (take-append_seam line rest) ∙ ap (take (length line)) (sym s.joined) ∙ ap (λ (n : ℕ). take n input) line_size
      ∙ ap (λ (l : List ℕ). take (line_length l) l) h
      in
      let z : length line ≡ m = line_size ∙ ap line_length h in
      q ∙ ap (λ (n : ℕ). take (n - 1 - length (name k)) (drop (length (name k)) line)) z
      ∙ ap (λ (l : List ℕ). take (m - 1 - length (name k)) (drop (length (name k)) l)) e
      ∙ value_part p m (length (name k)) whole

-- ---- the sizes

module _ (input : List ℕ) {a b r₁ r₂ : List ℕ} (s₁ : SplitsLine input a r₁) (s₂ : SplitsLine r₁ b r₂) {m : ℕ} (em : m ≡ number_in Mains a) {p : Bool} (ep : p ≡ named Backups b) where
  abbrev ls : List Line
  ls = lines_of input

  second : lines_of r₁ ≡ drop 1 ls
  second = past_line ls 0 refl s₁

  third : lines_of r₂ ≡ drop 2 ls
  third = past_line ls 1 second s₂

  second_start : r₁ ≡ drop (line_start input 1) input
  second_start = past_start input 0 (first_start input) s₁

  third_start : r₂ ≡ drop (line_start input 2) input
  third_start = past_start input 1 second_start s₂

  mains : m ≡ number_in Mains (line_at ls 0)
  mains = line_number ls 0 refl s₁ Mains em

  has : p ≡ named Backups (line_at ls 1)
  has = ep ∙ ap (named Backups) (line_is ls 1 second s₂)

  -- without a line of backups
  pub header_short : {d n : ℕ} {r : HeaderAt} → p ≡ false → d ≡ default_backups m → n ≡ number_in Blocks b → r.layout ≡ layout_of m d n → r.rest.now ≡ r₂ → ReadsHeader input r
  unfolding sizes_of blocks_line
  header_short {n = n} h ed en el er =
      let e : named Backups (line_at ls 1) ≡ false = sym has ∙ h in
      let q : n ≡ number_in Blocks (line_at ls 1) = line_number ls 1 second s₂ Blocks en in
      record {
        layout = el ∙ rw (e, ed, ← mains, ← q);
        rest = rw e (ap lines_of er ∙ third);
      }

  pub short_stands : {r : HeaderAt} → p ≡ false → r.rest.now ≡ r₂ → HeaderStands input r
  unfolding blocks_line
  short_stands {r = r} h er =
      let e : named Backups (line_at ls 1) ≡ false = sym has ∙ h in
      let q : r.rest.now ≡ drop (line_start input 2) input = er ∙ third_start in
      record { inside = start_inside input _; tail = rw e q }

  -- with one
  pub header_long : {c r₃ : List ℕ} {x n : ℕ} {r : HeaderAt} → p ≡ true → SplitsLine r₂ c r₃ → x ≡ number_in Backups b → n ≡ number_in Blocks c
      → r.layout ≡ layout_of m x n → r.rest.now ≡ r₃ → ReadsHeader input r
  unfolding sizes_of blocks_line
  header_long {x = x} {n = n} h s₃ ex en el er =
      let e : named Backups (line_at ls 1) ≡ true = sym has ∙ h in
      let y : x ≡ number_in Backups (line_at ls 1) = line_number ls 1 second s₂ Backups ex in
      let z : n ≡ number_in Blocks (line_at ls 2) = line_number ls 2 third s₃ Blocks en in
      record {
        layout = el ∙ rw (e, ← mains, ← y, ← z);
        rest = rw e (ap lines_of er ∙ past_line ls 2 third s₃);
      }

  pub long_stands : {c r₃ : List ℕ} {r : HeaderAt} → p ≡ true → SplitsLine r₂ c r₃ → r.rest.now ≡ r₃ → HeaderStands input r
  unfolding blocks_line
  long_stands {r = r} h s₃ er =
      let e : named Backups (line_at ls 1) ≡ true = sym has ∙ h in
      let q : r.rest.now ≡ drop (line_start input 3) input = er ∙ past_start input 2 third_start s₃ in
      record { inside = start_inside input _; tail = rw e q }

-- ---- a group

pub group_read : (input : List ℕ) {a b c d e r₁ r₂ r₃ r₄ r₅ : List ℕ} (r : GroupAt)
    → SplitsLine input a r₁ → SplitsLine r₁ b r₂ → SplitsLine r₂ c r₃ → SplitsLine r₃ d r₄ → SplitsLine r₄ e r₅
    → r.place.main ≡ number_in Main a → r.place.block ≡ number_in Block b → r.place.offset ≡ number_in Offset c → r.digits.now ≡ value_of Bytes d
    → r.checkpoint ≡ eqb (number_in Checkpoint e) 1 → r.rest.now ≡ r₅ → ReadsGroup input r
unfolding group_of
group_read input r s₁ s₂ s₃ s₄ s₅ em eb eo ed ec er =
    let ls = lines_of input in
    let h1 = past_line ls 0 refl s₁ in
    let h2 = past_line ls 1 h1 s₂ in
    let h3 = past_line ls 2 h2 s₃ in
    let h4 = past_line ls 3 h3 s₄ in
    record {
      main = line_number ls 0 refl s₁ Main em;
      block = line_number ls 1 h1 s₂ Block eb;
      offset = line_number ls 2 h2 s₃ Offset eo;
      digits = ed ∙ ap (value_of Bytes) (line_is ls 3 h3 s₄);
      checkpoint = ec ∙ ap (λ (l : Line). eqb (number_in Checkpoint l) 1) (line_is ls 4 h4 s₅);
      rest = ap lines_of er ∙ past_line ls 4 h4 s₅;
    }

pub group_stands : (input : List ℕ) {a b c d e r₁ r₂ r₃ r₄ r₅ : List ℕ} (r : GroupAt)
    → SplitsLine input a r₁ → SplitsLine r₁ b r₂ → SplitsLine r₂ c r₃ → SplitsLine r₃ d r₄ → SplitsLine r₄ e r₅
    → r.digits.now ≡ value_of Bytes d → r.rest.now ≡ r₅ → GroupStands input r
group_stands input r s₁ s₂ s₃ s₄ s₅ ed er =
    let p1 = past_start input 0 (first_start input) s₁ in
    let p2 = past_start input 1 p1 s₂ in
    let p3 = past_start input 2 p2 s₃ in
    let p4 = past_start input 3 p3 s₄ in
    record {
      place = line_value input 3 p3 s₄ Bytes ed;
      ordered = (omega arith, omega (arith, start_more input 3, start_more input 4));
      inside = start_inside input 5;
      tail = er ∙ past_start input 4 p4 s₅;
    }
