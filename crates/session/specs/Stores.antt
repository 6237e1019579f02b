-- What a session holds, in the words of the steps: a side, both sides, and everything that a line may change.
use Rattle.std.specs.Prelude.{List, ℕ, take, Result, Ok}
use Rattle.std.specs.Borrow.{Lends, Bor, MutBor, Fml}
use Rattle.std.specs.Result.{result_map_both}
use Rattle.image.specs.declared.answer.Side.{Side}
use Rattle.image.specs.declared.answer.Side.TheVariants.{Left, Right}
use Rattle.session.specs.declared.feed.Line.{Line}
use Rattle.session.specs.declared.store.Store.{Store}
use Rattle.session.specs.declared.step.Stores.{Stores}
use Rattle.session.specs.declared.step.Session.{Session}
use Rattle.session.specs.contracts.store.Store.{the_row as store_row}
use Rattle.session.specs.contracts.step.Stores.{the_row}
use Rattle.session.specs.declared.reply.Refusal.{Refusal}
use Rattle.session.specs.Frames.{Command}
use Rattle.session.specs.Replies.{Replied}
use Rattle.session.specs.Steps.{SideState, State, side_state, replied, After, after, obeyed, after_line}

abbrev pub side_of_store : Store → SideState
side_of_store s = side_state s.used s.closed

abbrev pub state_of : Stores → State
state_of s = record { left = side_of_store s.left; right = side_of_store s.right }

-- what is lent of a side, by its value
abbrev pub lent_of : Result (Bor (List ℕ)) Refusal → Result (List ℕ) Refusal
lent_of r = result_map_both (λ x. x.now) (λ e. e) r

-- of a line what is kept, at its front
abbrev pub kept_in : Line → List ℕ
kept_in line = take line.len line.chars

-- the store of a side, and the stores with another there
abbrev pub store_at : Side → Stores → Store
store_at Left s = s.left
store_at Right s = s.right

abbrev pub with_store : Side → Stores → Store → Stores
with_store Left s w = record s { left = w }
with_store Right s w = record s { right = w }

-- the store of a side, lent: what is left there is that side's
abbrev pub LendsStore : MutBor Stores → Side → MutBor Store → Fml
LendsStore s side r = Lends the_row store_row s r (with_store side s.now)

-- a reply, and what is held after it
abbrev pub after_of : Replied → Session → After
after_of reply s = after (replied reply (state_of s.stores)) s.stores.left.bytes s.stores.right.bytes s.out

-- what is asked, and a line, from what is held on
abbrev pub after_command_of : Command → Session → After
after_command_of command s = obeyed (Ok command) s.stores.left.bytes s.stores.right.bytes (state_of s.stores) s.out

abbrev pub after_line_of : List ℕ → Session → After
after_line_of line s = after_line line s.stores.left.bytes s.stores.right.bytes (state_of s.stores) s.out
