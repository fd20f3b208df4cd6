-- What an element of the library stands for.
use Rattle.gs1.specs.Elements.{Element}
use Rattle.gs1.specs.declared.strings.Element.{Element as Given}

abbrev pub given_element : Given → Element
given_element element = record { identifier = element.identifier.now; value = element.value.now }
