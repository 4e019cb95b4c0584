-- A session that is lent, of which the code has a view. Assumes nothing.
use Rattle.std.specs.Prelude.{ℕ, List}
use Rattle.model.specs.declared.Layout.{Layout}
use Rattle.model.specs.declared.Session.{Session}
use Rattle.session.specs.declared.SessionView.{SessionView}

-- the session of a layout, a word of dirty segments, words of dirty blocks, and a kind of module
abbrev pub session_of : Layout → ℕ → List ℕ → ℕ → Session
session_of l segments words domain = record { layout = l; dirty_segments = segments; dirty_blocks = words; domain = domain }

-- the session that is viewed
abbrev pub viewed : SessionView → Session
viewed v = session_of v.layout v.dirty_segments v.dirty_blocks.now v.domain
