-- `boot_strap::same_strap` meets its contract.
use mathlib.Core.Path.{sym, ap, ◌∙◌}
use mathlib.Core.Bool.{and_assoc, and-true}
use Rattle.boot_strap.specs.Strap.{kind_of, fields_of, same_list, same_strap}
use Rattle.boot_strap.proofs.StrapLaws.{strap_from, of_kind, other_kind, byte_beq, spi_same}
use Rattle.boot_strap.proofs.same_strap.Goals as goal

pub returns-in_default : goal.returns-in_default
unfolding kind_of strap_from
returns-in_default c =
    other_kind c.args.first c.args.second (λ e. c.in_default.not-Sleep _ _ _ (of_kind c.args.second 0 (sym e ∙ ap kind_of c.in-Sleep.is)))

pub returns-in_default-second : goal.returns-in_default-second
unfolding kind_of strap_from
returns-in_default-second c =
    other_kind c.args.first c.args.second (λ e. c.in_default-second.not-Emif16 _ _ _ (of_kind c.args.second 1 (sym e ∙ ap kind_of c.in-Emif16.is)))

pub returns-in_default-second-2 : goal.returns-in_default-second-2
unfolding kind_of strap_from
returns-in_default-second-2 c =
    other_kind c.args.first c.args.second (λ e. c.in_default-second-2.not-Link _ _ _ (of_kind c.args.second 2 (sym e ∙ ap kind_of c.in-Link.is)))

pub returns-in_default-second-3 : goal.returns-in_default-second-3
unfolding kind_of strap_from
returns-in_default-second-3 c =
    other_kind c.args.first c.args.second (λ e. c.in_default-second-3.not-Ethernet _ _ _ _ _ (of_kind c.args.second 3 (sym e ∙ ap kind_of c.in-Ethernet.is)))

pub returns-in_default-second-4 : goal.returns-in_default-second-4
unfolding kind_of strap_from
returns-in_default-second-4 c =
    other_kind c.args.first c.args.second (λ e. c.in_default-second-4.not-Pcie _ _ _ (of_kind c.args.second 4 (sym e ∙ ap kind_of c.in-Pcie.is)))

pub returns-in_default-second-5 : goal.returns-in_default-second-5
unfolding kind_of strap_from
returns-in_default-second-5 c =
    other_kind c.args.first c.args.second (λ e. c.in_default-second-5.not-I2cMaster _ (of_kind c.args.second 5 (sym e ∙ ap kind_of c.in-I2cMaster.is)))

pub returns-in_default-second-6 : goal.returns-in_default-second-6
unfolding kind_of strap_from
returns-in_default-second-6 c =
    other_kind c.args.first c.args.second (λ e. c.in_default-second-6.not-I2cPassive _ (of_kind c.args.second 6 (sym e ∙ ap kind_of c.in-I2cPassive.is)))

pub returns-in_default-second-7 : goal.returns-in_default-second-7
unfolding kind_of strap_from
returns-in_default-second-7 c =
    other_kind c.args.first c.args.second (λ e. c.in_default-second-7.not-Spi _ _ _ _ _ _ (of_kind c.args.second 7 (sym e ∙ ap kind_of c.in-Spi.is)))

pub returns-in-Sleep-second : goal.returns-in-Sleep-second
unfolding same_strap kind_of fields_of same_list
returns-in-Sleep-second c = rw (c.in-Sleep.is, c.in-Sleep-second.is) (simp (and_assoc, and-true, byte_beq))

pub returns-in-Emif16-second : goal.returns-in-Emif16-second
unfolding same_strap kind_of fields_of same_list
returns-in-Emif16-second c = rw (c.in-Emif16.is, c.in-Emif16-second.is) (simp (and_assoc, and-true, byte_beq))

pub returns-in-Link-second : goal.returns-in-Link-second
unfolding same_strap kind_of fields_of same_list
returns-in-Link-second c = rw (c.in-Link.is, c.in-Link-second.is) (simp (and_assoc, and-true))

pub returns-in-Ethernet-second : goal.returns-in-Ethernet-second
unfolding same_strap kind_of fields_of same_list
returns-in-Ethernet-second c = rw (c.in-Ethernet.is, c.in-Ethernet-second.is) (simp (and_assoc, and-true))

pub returns-in-Pcie-second : goal.returns-in-Pcie-second
unfolding same_strap kind_of fields_of same_list
returns-in-Pcie-second c = rw (c.in-Pcie.is, c.in-Pcie-second.is) (simp (and_assoc, and-true))

pub returns-in-I2cMaster-second : goal.returns-in-I2cMaster-second
unfolding same_strap kind_of fields_of same_list
returns-in-I2cMaster-second c = rw (c.in-I2cMaster.is, c.in-I2cMaster-second.is) (simp and-true)

pub returns-in-I2cPassive-second : goal.returns-in-I2cPassive-second
unfolding same_strap kind_of fields_of same_list
returns-in-I2cPassive-second c = rw (c.in-I2cPassive.is, c.in-I2cPassive-second.is) (simp and-true)

pub returns-in-Spi-second : goal.returns-in-Spi-second
returns-in-Spi-second c = rw (c.in-Spi.is, c.in-Spi-second.is) (spi_same _ _ _ _ _ _ _ _ _ _ _ _)
