-- What it means to append a text to a page, a buffer with the place where the text that it holds ends. Assumes nothing.
use Rattle.std.specs.Prelude.{ℕ, ◌+◌, ◌≡◌, ◌≤◌, List, ◌++◌, length, take, drop}
use Rattle.printer.specs.declared.Page.{Page}

-- asked: the buffer has room for so many bytes behind that text
pub record Room (p : Page) (n : ℕ) : Type 0 where
  pub room : p.end + n ≤ length p.out.now

-- the page p is the buffer `out`, of which it holds nothing yet
pub record Begun (out : List ℕ) (p : Page) : Type 0 where
  pub holds : p.out.now ≡ out
  pub end : p.end ≡ 0

-- promised: the page p' has the same buffer, which held a text up to the end of p and now holds that text and another behind it,
-- up to the end of p'; what stands behind is as it was
pub record Appended (p : Page) (text : List ℕ) (p' : Page) : Type 0 where
  pub same : p'.out.ghost_name ≡ p.out.ghost_name
  pub end : p'.end ≡ p.end + length text
  pub size : length p'.out.now ≡ length p.out.now
  pub holds : take p'.end p'.out.now ≡ take p.end p.out.now ++ text
  pub rest : drop p'.end p'.out.now ≡ drop p'.end p.out.now

-- promised where the text is known in other terms: the page p' has the same buffer, and no more than n bytes more are held
pub record Grown (p : Page) (n : ℕ) (p' : Page) : Type 0 where
  pub same : p'.out.ghost_name ≡ p.out.ghost_name
  pub size : length p'.out.now ≡ length p.out.now
  pub upper_bound : p'.end ≤ p.end + n
