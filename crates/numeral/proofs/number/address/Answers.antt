-- Four octets are read, one behind the other, and each `?` says where its octet ends and what the number is by then.
-- Where one is missing, and where more stands behind the fourth, the words spell no address; else they do: `address_read`.
use borrow.Author.Rules.{rules}
use Rattle.numeral.proofs.Addresses.{none_first, none_second, none_third, none_fourth, more_behind, address_read}
use Rattle.numeral.proofs.number.address.Goals as goal

pub returns-in_err-a : goal.returns-in_err-a
returns-in_err-a c = rw c.from_residual.ensures (none_first _ c.in_err-a.ensures)

pub returns-in_err-b : goal.returns-in_err-b
returns-in_err-b c =
    rw c.from_residual-in_err-b.ensures (none_second _ _ _ c.in_ok-a.ensures c.in_err-b.ensures)

pub returns-in_err-c : goal.returns-in_err-c
returns-in_err-c c =
    rw c.from_residual-in_err-c.ensures (none_third _ _ _ c.in_ok-a.ensures _ _ c.in_ok-b.ensures c.in_err-c.ensures)

pub returns-in_err-d : goal.returns-in_err-d
returns-in_err-d c =
    rw c.from_residual-in_err-d.ensures
    (none_fourth _ _ _ c.in_ok-a.ensures _ _ c.in_ok-b.ensures _ _ c.in_ok-c.ensures c.in_err-d.ensures)

pub returns-then-end-s : goal.returns-then-end-s
returns-then-end-s c =
    more_behind _ _ _ c.in_ok-a.ensures _ _ c.in_ok-b.ensures _ _ c.in_ok-c.ensures _ _ c.in_ok-d.ensures (search rules)

pub returns : goal.returns
returns c =
    address_read _ _ _ c.in_ok-a.ensures _ _ c.in_ok-b.ensures _ _ c.in_ok-c.ensures _ _ c.in_ok-d.ensures (search rules)
