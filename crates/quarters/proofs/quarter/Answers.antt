-- the quarter's number tells which function is taken, and how many words it draws
use borrow.Author.Rules.{rules}
use mathlib.Core.Logic.{inl, inr}
use Rattle.quarters.proofs.Parts.{parity_chosen, chosen_by, room_one, after_one, after_none}
use Rattle.quarters.proofs.quarter.Goals as goal

pub choose-requires : goal.choose-requires
choose-requires c = (search rules, search (room_one, inl, inr))

pub returns-then-q-eq0 : goal.returns-then-q-eq0
returns-then-q-eq0 c = (search chosen_by, search (after_one, inl, inr))

pub majority-requires : goal.majority-requires
majority-requires c = (search rules, search (room_one, inl, inr))

pub returns-then-q-eq2 : goal.returns-then-q-eq2
returns-then-q-eq2 c = (search chosen_by, search (after_one, inl, inr))

pub returns : goal.returns
returns c = (search parity_chosen, search after_none)
