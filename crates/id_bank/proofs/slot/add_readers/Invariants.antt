use Rattle.std.proofs.Common.{◌≡◌, ◌++◌, map, take}
use Rattle.id_bank.proofs.slot.add_readers.Given as goal

-- the replies so far are added
abbrev pub invariant-loop-reply : goal.invariant-loop-reply
invariant-loop-reply l =
    l.readers.items ≡ l.initial.readers.items
    ++ map (λ t. record { cell = l.cell; reply = t }) (take l.reply-index l.replies)
