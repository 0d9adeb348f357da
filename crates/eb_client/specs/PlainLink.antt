-- A link of which nothing is known but its octets.
use Rattle.eb_client.specs.declared.plain_link.PlainLink.{PlainLink}

-- the link inside
abbrev pub inner_link : {L : Type 0} → PlainLink L → L
inner_link l = l.link

-- what the link inside tells
abbrev pub told_inside : {L T : Type 0} → (L → T) → PlainLink L → T
told_inside told l = told l.link
